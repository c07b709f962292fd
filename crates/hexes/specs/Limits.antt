-- The limits of what may be handed in, and the two marks of the tables, each named once. `src/limits.rt` names the same numbers for the code.
use Rattle.std.specs.Prelude.{ℕ}

-- A coordinate handed in lies from minus this to this.
abbrev pub coordinate_limit : ℕ
coordinate_limit = 1000000

-- A ring's range is at most this.
abbrev pub range_limit : ℕ
range_limit = 1000

-- A map's radius is at most this.
abbrev pub radius_limit : ℕ
radius_limit = 60

-- The effort of a tile that nobody may enter.
abbrev pub barred : ℕ
barred = 65535

-- The total of a tile to which no way leads.
abbrev pub no_way : ℕ
no_way = 4294967295
