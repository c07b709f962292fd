-- Tiles in whole numbers: neighbours, distance and the coordinate limit. Distance is the largest of |dx|, |dy| and |dx + dy|.
use Rattle.std.specs.Prelude.{Bool, ◌&&◌, ℕ, max, leb, ℤ, nat_abs, ◌+ℤ◌, ◌-ℤ◌}
use Rattle.hexes.specs.Limits.{coordinate_limit}
use Rattle.hexes.specs.Directions.{step_of}
use Rattle.hexes.specs.declared.Tile.{Tile}
use Rattle.hexes.specs.declared.Place.{Place}

abbrev pub tile : ℤ → ℤ → Tile
tile x y = record { x = x; y = y }

-- The place with a tile's coordinates, and the tile with a place's.
abbrev pub place : Tile → Place
place t = record { x = t.x; y = t.y }

abbrev pub tile_at : Place → Tile
tile_at p = record { x = p.x; y = p.y }

-- The tile one step away in a direction.
unfoldable pub neighbor_of : Tile → ℕ → Tile
neighbor_of t d = tile (t.x +ℤ (step_of d).0) (t.y +ℤ (step_of d).1)

-- How far two coordinate differences lead, and the distance of two tiles.
unfoldable pub span : ℤ → ℤ → ℕ
span dx dy = max (max (nat_abs dx) (nat_abs dy)) (nat_abs (dx +ℤ dy))

unfoldable pub distance_of : Tile → Tile → ℕ
distance_of a b = span (b.x -ℤ a.x) (b.y -ℤ a.y)

-- Both coordinates are within the limit.
unfoldable pub within_limit : Tile → Bool
within_limit t = leb (nat_abs t.x) coordinate_limit && leb (nat_abs t.y) coordinate_limit
