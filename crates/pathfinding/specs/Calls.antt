-- What a route promises.
use Rattle.std.specs.Prelude.{◌≡◌, List, [], ℕ, ◌<◌, ℤ, length}
use Rattle.hexes.specs.Answers.{Answer, provided}
use Rattle.hexes.specs.Refusals.{not_of_map, no_open_path}
use Rattle.hexes.specs.declared.Tile.{Tile}
use Rattle.runs.specs.Runs.{Lists}
use Rattle.storage.specs.Maps.{map_refusal, of_map, judged_by}
use Rattle.storage.specs.declared.Map.{Map}
use Rattle.terrain.specs.Judging.{call_refusal}
use Rattle.terrain.specs.TileRoutes.{BestTiles, NoTileRoute, RankTable}

-- The refusal, the lowest number first: the map's own (1, 2), 5 for a start or an end that is not of the map, 6 for a table whose length is not the map's. 0 is no refusal.
unfoldable pub route_refusal : Map → Tile → Tile → ℕ → ℕ → ℕ
route_refusal map start end efforts ranks = judged_by (map_refusal map) (λ number. number) (provided (of_map map start) not_of_map (call_refusal map end efforts ranks))

-- What is answered, and what the lent run holds: 8 if no route joins start and end; else the tiles of the best route, or 7 if the run is too short for them.
pub data Leads (map : Map) (efforts : List ℕ) (start end : Tile) (entry : List ℤ) (r : Answer ℕ) (exit : List ℤ) : Type 0 where
  lost : NoTileRoute map efforts start end → Lists no_open_path [] entry r exit → Leads map efforts start end entry r exit
  led : (tiles : List Tile) → BestTiles map efforts start end tiles → Lists 0 tiles entry r exit → Leads map efforts start end entry r exit

-- The call: refused, the number, and both the rank table and the run are unchanged; accepted, the table holds every rank, whatever is answered.
pub record Routes (map : Map) (efforts : List ℕ) (start end : Tile) (before : List ℕ) (entry : List ℤ) (r : Answer ℕ) (after : List ℕ) (exit : List ℤ) : Type 0 where
  pub refused : 0 < route_refusal map start end (length efforts) (length before) → Lists (route_refusal map start end (length efforts) (length before)) [] entry r exit × (after ≡ before)
  pub accepted : route_refusal map start end (length efforts) (length before) ≡ 0 → RankTable map efforts end after × Leads map efforts start end entry r exit
