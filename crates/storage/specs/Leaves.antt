-- What this crate's private functions answer. No public promise of this crate cites this file: `proofs/Strips` shows that the tile of a strip is the tile that the promises name, and
-- `proofs/Near` that what stands beside it is the neighbour.
use Rattle.std.specs.Prelude.{cond, ℕ, ◌+◌, ◌-◌, ◌*◌, ◌/◌, ◌%◌, ◌<◌, leb, ℤ, pos, ◌+ℤ◌, ◌-ℤ◌, ◌*ℤ◌, Option, None, Some}
use Rattle.hexes.specs.Answers.{provided}
use Rattle.hexes.specs.Directions.{step_of}
use Rattle.hexes.specs.Refusals.{not_of_map}
use Rattle.hexes.specs.Tiles.{tile, neighbor_of, distance_of}
use Rattle.hexes.specs.declared.Tile.{Tile}
use Rattle.storage.specs.Hexmod.{shift_of, index_in, index_of}
use Rattle.storage.specs.Maps.{map_refusal, of_map, judged_by}
use Rattle.storage.specs.declared.Index.{Index}
use Rattle.storage.specs.declared.Map.{Map}

-- The number of the refusal of a tile that is asked for in a map, the lowest first; 0 for a tile of a map that is fine.
unfoldable pub place_refusal : Map → Tile → ℕ
place_refusal map t = judged_by (map_refusal map) (λ n. n) (provided (of_map map t) not_of_map 0)

-- The indices, r more, lie in strips of 3r+2: place w of strip m. Of a strip, the first places are x = m, the last x = m - r.
unfoldable pub strip_x : ℕ → ℕ → ℕ → ℤ
strip_x r m w = cond (leb (m + w) (2 * r)) (pos m -ℤ pos 0) (pos m -ℤ pos r)

unfoldable pub strip_y : ℕ → ℕ → ℕ → ℤ
strip_y r m w = cond (leb (m + w) (2 * r)) (pos w -ℤ pos r) (pos w -ℤ pos (2 * r + 1))

abbrev pub in_strip : Map → ℕ → ℕ → Tile
in_strip map m w = tile (map.centre.x +ℤ strip_x map.radius m w) (map.centre.y +ℤ strip_y map.radius m w)

abbrev pub tile_at_index : Map → ℕ → Tile
tile_at_index map i = in_strip map ((i + map.radius) / shift_of map.radius) ((i + map.radius) % shift_of map.radius)

-- A tile that does not lie on the map's rim: all its neighbours are of the map.
abbrev pub Inside : Map → Tile → Type 0
Inside map t = distance_of map.centre t < map.radius

-- How far a step in a direction moves an index, before it is taken modulo the area.
unfoldable pub stride_of : ℕ → ℕ → ℤ
stride_of r d = (step_of d).1 +ℤ pos (shift_of r) *ℤ (step_of d).0

-- The entry of a direction beside a tile of the map.
unfoldable pub beside_at : Map → Tile → ℕ → Option Index
beside_at map t d = cond (of_map map (neighbor_of t d)) (Some (index_of map (neighbor_of t d))) None

-- The theories of paths and routes reckon with numbers alone: this one, which no tile has, stands for none.
abbrev pub no_index : ℕ
no_index = 4294967295

abbrev pub number_or_none : Option Index → ℕ
number_or_none None = no_index
number_or_none (Some i) = i.0

-- The number of the entry of a direction beside a tile.
unfoldable pub beside_in : Map → Tile → ℕ → ℕ
beside_in map t d = cond (of_map map (neighbor_of t d)) (index_in map (neighbor_of t d)) no_index

-- The same by index: what stands in a direction beside the tile that has an index.
unfoldable pub near_in : Map → ℕ → ℕ → ℕ
near_in map i d = beside_in map (tile_at_index map i) d

-- The tile of a row and column.
abbrev pub tile_at_row : Map → ℕ → ℕ → Tile
tile_at_row map row column = tile (map.centre.x +ℤ (pos (column + (map.radius - row)) -ℤ pos map.radius)) (map.centre.y +ℤ (pos row -ℤ pos map.radius))
