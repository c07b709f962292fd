-- The dense index of a tile of a map, relative to its centre: y + (3r+2)x modulo the area, never negative. The way back asks for the one tile of the map with an index.
use Rattle.std.specs.Prelude.{ℕ, ◌+◌, ◌*◌, pos, ◌+ℤ◌, ◌-ℤ◌, ◌*ℤ◌}
use Rattle.whole.specs.Euclid.{remainder}
use Rattle.hexes.specs.Answers.{Told, Answer, Tells}
use Rattle.hexes.specs.declared.Tile.{Tile}
use Rattle.storage.specs.Maps.{area_of, to_place, FromPlace}
use Rattle.storage.specs.declared.Index.{Index}
use Rattle.storage.specs.declared.Map.{Map}

abbrev pub shift_of : ℕ → ℕ
shift_of r = 3 * r + 2

unfoldable pub index_in : Map → Tile → ℕ
index_in map t = remainder ((t.y -ℤ map.centre.y) +ℤ pos (shift_of map.radius) *ℤ (t.x -ℤ map.centre.x)) (area_of map.radius)

abbrev pub index : ℕ → Index
index i = record { 0 = i }

abbrev pub index_of : Map → Tile → Index
index_of map t = index (index_in map t)

-- What the answer of a call that finds an index tells.
abbrev pub IndexTells : Answer Index → (Told Index → Type 0) → Type 0
IndexTells = Tells (index 0)

-- What the way there tells, and what the way back.
abbrev pub to_hexmod : Map → Tile → Told Index
to_hexmod map t = to_place (index 0) map t (index_of map t)

abbrev pub FromHexmod : Map → Index → Told Tile → Type 0
FromHexmod map asked = FromPlace map (index_of map) asked
