-- What a program writes that goes down a table of ranks from a tile, always by the smallest direction number that the table allows: the tiles of the best route, as many as the rank says.
use mathlib.Core.Path.{◌≡◌, refl, sym, ap, ap₂, ◌∙◌}
use mathlib.Core.Bool.{true}
use mathlib.Core.List.{List, [], ◌∷◌}
use mathlib.Core.List as list
use Prim.Native.Nat.{ℕ, suc, ◌+◌, ◌/◌, ◌%◌, ◌≤◌, ◌<◌}
use native.Mathlib.Omega.{arith}
use lib.ListN.{length}
use Rattle.paths.specs.Tables.{at}
use Rattle.routes.specs.Descents.{Descent}
use Rattle.routes.specs.Grounds.{Ground}
use Rattle.routes.specs.Ranks.{multiplier, no_rank}
use Rattle.routes.specs.Routes.{tiles_of}
use Rattle.routes.specs.Turned.{turned}
use Rattle.routes.proofs.DownIsBest.{BestDown, down_ends, down_best}
use Rattle.hexes.specs.Limits.{radius_limit}
use Rattle.hexes.specs.Tiles.{neighbor_of}
use Rattle.hexes.specs.declared.Tile.{Tile}
use Rattle.storage.specs.Hexmod.{index_in}
use Rattle.storage.specs.Leaves.{tile_at_index}
use Rattle.storage.specs.Maps.{of_map}
use Rattle.storage.specs.declared.Map.{Map}
use Rattle.storage.proofs.Back.{index_below}
use Rattle.storage.proofs.Near.{tile_of_index, near_on}
use Rattle.terrain.specs.GroundOfMap.{ground_of}
use Rattle.terrain.specs.TilePaths.{entry_at, Path}
use Rattle.terrain.specs.TileRoutes.{Directions, BestTiles, RankTable}
use Rattle.terrain.proofs.BestRoutes.{in_tiles, best_in_tiles}
use Rattle.terrain.proofs.RanksOfMap.{ranks_over}
use Rattle.terrain.proofs.RoutesOfMap.{ground_fits, TilesOf}
use Rattle.terrain.proofs.Totals.{Efforts}
use Rattle.terrain.proofs.Walks.{first_of}

-- The tiles from one on by direction numbers, itself the first: one more than there are numbers.
abbrev pub tiles_by : Tile → List ℕ → List Tile
tiles_by t [] = t ∷ []
tiles_by t (d ∷ ds) = t ∷ tiles_by (neighbor_of t d) ds

tiles_count : (t : Tile) (ds : List ℕ) → length (tiles_by t ds) ≡ suc (length ds)
tiles_count t [] = refl
tiles_count t (d ∷ ds) = ap suc (tiles_count (neighbor_of t d) ds)

tiles_by_lem : (a : Tile) (ts : List Tile) (ds : List ℕ) → Directions a ts ds → tiles_by a ds ≡ a ∷ ts
tiles_by_lem a [] [] p = refl
tiles_by_lem a [] (d ∷ ds) p = absurd p
tiles_by_lem a (b ∷ ts) [] p = absurd p
tiles_by_lem a (b ∷ ts) (d ∷ ds) p = ap (λ (l : List Tile). a ∷ l) (ap (λ (t : Tile). tiles_by t ds) p.0.1 ∙ tiles_by_lem b ts ds p.1)

-- The same tiles, each from its index.
by_index : (map : Map) (efforts : List ℕ) (a : Tile) (ts : List Tile) (ds : List ℕ) → Path map a ts → Directions a ts ds → list.map (tile_at_index map) (tiles_of (ground_of map efforts) (index_in map a) ds) ≡ a ∷ ts
by_index map efforts a [] [] p q = ap (λ (t : Tile). t ∷ []) (tile_of_index map a p)
by_index map efforts a [] (d ∷ ds) p q = absurd q
by_index map efforts a (b ∷ ts) [] p q = absurd q
by_index map efforts a (b ∷ ts) (d ∷ ds) p q =
    let on = ap (of_map map) q.0.1 ∙ first_of map b ts p.1.1 in
    let e = near_on map a d p.0 on ∙ ap (index_in map) q.0.1 in
    ap₂ (λ (t : Tile) (l : List Tile). t ∷ l) (tile_of_index map a p.0)
    (ap (λ (i : ℕ). list.map (tile_at_index map) (tiles_of (ground_of map efforts) i ds)) e ∙ by_index map efforts b ts ds p.1.1 q.1)

-- What is given: a table of ranks, and a start whose rank says that there is a route.
module _ (map : Map) (small : map.radius ≤ radius_limit) (efforts : List ℕ) (short : Efforts efforts) (end : Tile) (on_end : of_map map end ≡ true) (ranks : List ℕ) (R : RankTable map efforts end ranks) (start : Tile) (on : of_map map start ≡ true) (some : entry_at map ranks start < no_rank) where
  abbrev G : Ground
  G = ground_of map efforts

  -- Going down ends.
  pub goes_down : (ds : List ℕ) × Descent (turned G multiplier) (at ranks) (index_in map end) (index_in map start) ds
  goes_down = down_ends (ground_fits map small efforts) (ranks_over map small efforts short end on_end ranks R) (index_below map start) some

  module _ (ds : List ℕ) (D : Descent (turned G multiplier) (at ranks) (index_in map end) (index_in map start) ds) where
    down : BestDown G (index_in map end) (at ranks) (index_in map start) ds
    down = down_best (ground_fits map small efforts) (ranks_over map small efforts short end on_end ranks R) (index_below map start) some D

    made : TilesOf map small efforts short start end ds (entry_at map ranks start / multiplier)
    made = in_tiles map small efforts short end on_end start on down.best.route

    -- The tiles of the directions taken are those of the best route, and so are the tiles of the indices on the way.
    pub down_tiles : BestTiles map efforts start end (tiles_by start ds)
    down_tiles = record { entered = made.entered; best = best_in_tiles map small efforts short end on_end start on down.best made; both_ends = tiles_by_lem start made.entered ds made.directions }

    pub down_indices : list.map (tile_at_index map) (tiles_of G (index_in map start) ds) ≡ tiles_by start ds
    down_indices = by_index map efforts start made.entered ds made.route.leads.path made.directions ∙ sym (tiles_by_lem start made.entered ds made.directions)

    pub down_count : length (tiles_by start ds) ≡ entry_at map ranks start % multiplier + 1
    down_count = omega (arith, tiles_count start ds, down.steps)
