-- Routes over the tiles of a map, the best of them, and the rank of a tile. A route is written, as paths are, as its start and the tiles that it enters after that.
use Rattle.std.specs.Prelude.{◌≡◌, ◌⊎◌, true, List, [], ◌∷◌, ℕ, ◌+◌, ◌*◌, ◌≤◌, ◌<◌, length}
use Rattle.hexes.specs.Limits.{barred}
use Rattle.hexes.specs.Tiles.{neighbor_of}
use Rattle.hexes.specs.declared.Tile.{Tile}
use Rattle.routes.specs.Ranks.{multiplier, no_rank}
use Rattle.routes.specs.Routes.{Smaller}
use Rattle.storage.specs.Maps.{of_map, area_of}
use Rattle.storage.specs.declared.Map.{Map}
use Rattle.terrain.specs.TilePaths.{entry_at, effort_into, Leading}

-- A route is a path with all tiles open, both ends included: it enters only open tiles, and its start is open too.
pub record TileRoute (map : Map) (efforts : List ℕ) (start end : Tile) (entered : List Tile) : Type 0 where
  pub leads : Leading map efforts start end entered
  pub begins : entry_at map efforts start ≡ barred → ⊥

-- Its cost is the sum of the efforts of the tiles after the start. (No 1 is added to an effort, as it is for riding range.)
abbrev pub cost_of : Map → List ℕ → Tile → List Tile → ℕ
cost_of map efforts a [] = 0
cost_of map efforts a (b ∷ ts) = effort_into map efforts a b + cost_of map efforts b ts

-- Its list of direction numbers, one for each step: the step of that direction leads from a tile to the next.
abbrev pub Directions : Tile → List Tile → List ℕ → Type 0
Directions a [] [] = Unit {0}
Directions a [] (d ∷ ds) = ⊥
Directions a (b ∷ ts) [] = ⊥
Directions a (b ∷ ts) (d ∷ ds) = ((d < 6) × (neighbor_of a d ≡ b)) × Directions b ts ds

-- A route of least cost, and of fewest steps at that cost. It has a step for each tile that it enters.
pub record Cheapest (map : Map) (efforts : List ℕ) (start end : Tile) (entered : List Tile) : Type 0 where
  pub route : TileRoute map efforts start end entered
  pub least : (other : List Tile) → TileRoute map efforts start end other → cost_of map efforts start entered ≤ cost_of map efforts start other
  pub fewest : (other : List Tile) → TileRoute map efforts start end other → cost_of map efforts start other ≡ cost_of map efforts start entered → length entered ≤ length other

-- The best route: of those, the one with the smallest list of direction numbers, compared from the front. `Smaller` compares lists of one length.
pub record BestTileRoute (map : Map) (efforts : List ℕ) (start end : Tile) (entered : List Tile) : Type 0 where
  pub cheapest : Cheapest map efforts start end entered
  pub by : List ℕ
  pub directions : Directions start entered by
  pub smallest : (other : List Tile) (es : List ℕ) → Cheapest map efforts start end other → Directions start other es → (by ≡ es) ⊎ Smaller by es

-- The list of its tiles holds both ends. So it is one tile where start and end are the same (`Rattle.terrain.proofs.BestRoutes`).
pub record BestTiles (map : Map) (efforts : List ℕ) (start end : Tile) (tiles : List Tile) : Type 0 where
  pub entered : List Tile
  pub best : BestTileRoute map efforts start end entered
  pub both_ends : tiles ≡ start ∷ entered

-- No route leads from the start to the end.
abbrev pub NoTileRoute : Map → List ℕ → Tile → Tile → Type 0
NoTileRoute map efforts start end = (entered : List Tile) → TileRoute map efforts start end entered → ⊥

-- The rank of a tile: the least cost of the routes from it to the end, times 65,536 (`multiplier`), and the fewest steps at that cost; the largest 64-bit number (`no_rank`) if there
-- is no route.
pub data TileRank (map : Map) (efforts : List ℕ) (end t : Tile) (rank : ℕ) : Type 0 where
  some : (entered : List Tile) → Cheapest map efforts t end entered → rank ≡ cost_of map efforts t entered * multiplier + length entered → TileRank map efforts end t rank
  none : NoTileRoute map efforts t end → rank ≡ no_rank → TileRank map efforts end t rank

-- The table of ranks: the entry of a tile is its rank.
pub record RankTable (map : Map) (efforts : List ℕ) (end : Tile) (ranks : List ℕ) : Type 0 where
  pub size : length ranks ≡ area_of map.radius
  pub each : (t : Tile) → of_map map t ≡ true → TileRank map efforts end t (entry_at map ranks t)
