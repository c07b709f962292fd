-- Grids: a conversion takes each tile to a pair of column and row. The way back asks for the one tile within the limit that converts to a given pair.
use Rattle.std.specs.Prelude.{◌≡◌, Bool, true, false, ℕ, leb, ℤ, pos}
use Rattle.hexes.specs.Answers.{Told, Answer, Tells, accepted, refused, provided, refused_tile}
use Rattle.hexes.specs.Refusals.{beyond_limit, unknown_number, odd_pair}
use Rattle.hexes.specs.Tiles.{within_limit}
use Rattle.hexes.specs.declared.Tile.{Tile}
use Rattle.conversions.specs.declared.GridPair.{GridPair}

abbrev pub pair : ℤ → ℤ → GridPair
pair column row = record { column = column; row = row }

-- What the answer of a call that finds a pair tells, and a refusal in its terms.
abbrev pub no_pair : GridPair
no_pair = pair (pos 0) (pos 0)

abbrev pub GridTells : Answer GridPair → (Told GridPair → Type 0) → Type 0
GridTells = Tells no_pair

abbrev pub refused_pair : ℕ → Told GridPair
refused_pair = refused no_pair

-- A mode or an orientation is known if it is 0 or 1.
abbrev pub known : ℕ → Bool
known n = leb n 1

-- The way there: 1 for a tile beyond the limit, then 3 where a number that chooses the conversion is unknown, else the pair.
unfoldable pub to_grid : Tile → Bool → GridPair → Told GridPair
to_grid t chosen p = provided (within_limit t) (refused_pair beyond_limit) (provided chosen (refused_pair unknown_number) (accepted p))

-- The tile that is asked for by its pair: the one within the limit that converts to it; 1 if only a tile beyond the limit converts to it; 4 if no tile does.
pub data TheTile (convert : Tile → GridPair) (asked : GridPair) : Told Tile → Type 0 where
  within : (t : Tile) → convert t ≡ asked → within_limit t ≡ true → TheTile convert asked (accepted t)
  beyond : (t : Tile) → convert t ≡ asked → within_limit t ≡ false → TheTile convert asked (refused_tile beyond_limit)
  none : ((t : Tile) → convert t ≡ asked → ⊥) → TheTile convert asked (refused_tile odd_pair)

-- The way back: that tile where the numbers that choose the conversion are known; where one is not, 3.
pub record FromGrid (chosen : Bool) (convert : Tile → GridPair) (asked : GridPair) (told : Told Tile) : Type 0 where
  pub known_number_told : chosen ≡ true → TheTile convert asked told
  pub unknown_number_told : chosen ≡ false → told ≡ refused_tile unknown_number
