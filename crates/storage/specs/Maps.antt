-- A map is a centre and a radius r. Its tiles are those at most r away from the centre; it has 3r(r+1) + 1 of them.
use Rattle.std.specs.Prelude.{◌≡◌, Bool, true, cond, ℕ, zero, suc, ◌+◌, ◌*◌, ◌<◌, eqb, leb}
use Rattle.hexes.specs.Answers.{Told, accepted, refused, provided, refused_tile}
use Rattle.hexes.specs.Limits.{radius_limit}
use Rattle.hexes.specs.Refusals.{beyond_limit, too_large, not_of_map}
use Rattle.hexes.specs.Tiles.{distance_of, within_limit}
use Rattle.hexes.specs.declared.Tile.{Tile}
use Rattle.storage.specs.declared.Map.{Map}

-- How a map is judged, the lowest number first: 1 for a centre beyond the limit, 2 for a radius beyond its limit. 0 is no refusal: the map is fine.
unfoldable pub map_refusal : Map → ℕ
map_refusal map = provided (within_limit map.centre) beyond_limit (provided (leb map.radius radius_limit) too_large 0)

-- Is a tile of the map? Any map and any tile may be asked about.
unfoldable pub of_map : Map → Tile → Bool
of_map map t = leb (distance_of map.centre t) map.radius

-- How many tiles a map of radius r has.
abbrev pub area_of : ℕ → ℕ
area_of r = 3 * r * (r + 1) + 1

-- How many tiles a map has; 0 for a map that is not fine.
unfoldable pub tiles_of : Map → ℕ
tiles_of map = cond (eqb (map_refusal map) 0) (area_of map.radius) 0

-- What is told of a map with that refusal number: the refusal, or the answer if the number is 0.
abbrev pub judged_by : {A : Type 0} → ℕ → (ℕ → A) → A → A
judged_by zero refuse answer = answer
judged_by (suc number) refuse answer = refuse (suc number)

-- The way from a tile to what it has in a map, its index say: the map's refusal, then 5 for a tile that is not of the map, else that.
unfoldable pub to_place : {A : Type 0} → A → Map → Tile → A → Told A
to_place zeros map t value = judged_by (map_refusal map) (refused zeros) (provided (of_map map t) (refused zeros not_of_map) (accepted value))

-- The tile that is asked for by what it has: the one tile of the map that has it; 5 if none has.
pub data TheTile {A : Type 0} (map : Map) (has : Tile → A) (asked : A) : Told Tile → Type 0 where
  of : (t : Tile) → of_map map t ≡ true → has t ≡ asked → TheTile map has asked (accepted t)
  none : ((t : Tile) → of_map map t ≡ true → has t ≡ asked → ⊥) → TheTile map has asked (refused_tile not_of_map)

-- The way back: the refusal of a map that is not fine, else that tile.
pub record FromPlace {A : Type 0} (map : Map) (has : Tile → A) (asked : A) (told : Told Tile) : Type 0 where
  pub map_fine : map_refusal map ≡ 0 → TheTile map has asked told
  pub map_refused : 0 < map_refusal map → told ≡ refused_tile (map_refusal map)
