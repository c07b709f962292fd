-- The rank of a tile, and the table of ranks, are those of the ground of the map. There is one table, and it says where there is no route.
use mathlib.Core.Path.{◌≡◌}
use mathlib.Core.Bool.{true}
use mathlib.Core.Logic.{◌↔◌}
use mathlib.Core.List.{List}
use Prim.Native.Nat.{ℕ, ◌≤◌}
use native.Mathlib.Omega.{arith}
use lib.ListN.{length}
use Rattle.paths.specs.Tables.{at}
use Rattle.routes.specs.Grounds.{Ground}
use Rattle.routes.specs.Ranks.{no_rank, RankOf, near, far, Ranks}
use Rattle.routes.proofs.DownIsBest.{ranks_none}
use Rattle.routes.proofs.RankTables.{rank_lists}
use Rattle.hexes.specs.Limits.{radius_limit}
use Rattle.hexes.specs.declared.Tile.{Tile}
use Rattle.storage.specs.Hexmod.{index_in}
use Rattle.storage.specs.Leaves.{tile_at_index}
use Rattle.storage.specs.Maps.{of_map, area_of}
use Rattle.storage.specs.declared.Map.{Map}
use Rattle.storage.proofs.Back.{index_below, tile_of_map, tile_has_index}
use Rattle.terrain.specs.GroundOfMap.{ground_of}
use Rattle.terrain.specs.TilePaths.{entry_at}
use Rattle.terrain.specs.TileRoutes.{NoTileRoute, TileRank, some, none, RankTable}
use Rattle.terrain.proofs.BestRoutes.{in_tiles, no_route, least_of, fewest_of, cheapest_of}
use Rattle.terrain.proofs.RoutesOfMap.{steps_count, ground_fits}
use Rattle.terrain.proofs.Totals.{Efforts}

module _ (map : Map) (small : map.radius ≤ radius_limit) (efforts : List ℕ) (short : Efforts efforts) (end : Tile) (on_end : of_map map end ≡ true) where
  abbrev G : Ground
  G = ground_of map efforts

  -- The rank of a tile.
  module _ (t : Tile) (on : of_map map t ≡ true) (rank : ℕ) where
    rank_over : TileRank map efforts end t rank → RankOf G (index_in map end) (index_in map t) rank
    rank_over (some ts C e) = near (least_of map small efforts short end on_end t on ts C) (fewest_of map small efforts short end on_end t on ts C) e
    rank_over (none n e) = far ((no_route map small efforts short end on_end t on).0 n) e

    rank_in_tiles : RankOf G (index_in map end) (index_in map t) rank → TileRank map efforts end t rank
    rank_in_tiles (near {v = v} {n = n} L F e) =
        let k = in_tiles map small efforts short end on_end t on F.route in
        some k.entered (cheapest_of map small efforts short end on_end t on L F k F.steps) (rw k.is (omega (arith, e, F.steps, steps_count t k.entered F.dirs k.directions)))
    rank_in_tiles (far n e) = none ((no_route map small efforts short end on_end t on).1 n) e

    pub rank_iff : TileRank map efforts end t rank ↔ RankOf G (index_in map end) (index_in map t) rank
    rank_iff = (rank_over, rank_in_tiles)

  -- The table of ranks.
  pub ranks_over : (ranks : List ℕ) → RankTable map efforts end ranks → Ranks G (index_in map end) (at ranks)
  ranks_over ranks R =
      record {
        each =
            λ i h.
            let t = tile_at_index map i in
            let on = tile_of_map map i h in
            rw (tile_has_index map i h) at ((rank_iff t on (entry_at map ranks t)).0 (R.each t on));
      }

  pub ranks_in_tiles : (ranks : List ℕ) → length ranks ≡ area_of map.radius → Ranks G (index_in map end) (at ranks) → RankTable map efforts end ranks
  ranks_in_tiles ranks e K = record { size = e; each = λ t on. (rank_iff t on (entry_at map ranks t)).1 (K.each (index_in map t) (index_below map t)) }

  pub ranks_iff : (ranks : List ℕ) → RankTable map efforts end ranks ↔ ((length ranks ≡ area_of map.radius) × Ranks G (index_in map end) (at ranks))
  ranks_iff ranks = (λ R. (R.size, ranks_over ranks R), λ p. ranks_in_tiles ranks p.0 p.1)

  -- Two tables of ranks are equal.
  pub one_ranks : (ranks ranks' : List ℕ) → RankTable map efforts end ranks → RankTable map efforts end ranks' → ranks ≡ ranks'
  one_ranks ranks ranks' R R' = rank_lists ranks ranks' R.size R'.size (ranks_over ranks R) (ranks_over ranks' R')

  -- A tile has the largest number exactly if no route leads from it.
  pub none_iff : (ranks : List ℕ) → RankTable map efforts end ranks → (start : Tile) → of_map map start ≡ true → (entry_at map ranks start ≡ no_rank) ↔ NoTileRoute map efforts start end
  none_iff ranks R start on =
      let p = ranks_none (ground_fits map small efforts) (ranks_over ranks R) (index_below map start) in
      let q = no_route map small efforts short end on_end start on in
      (λ z. q.1 (p.0 z), λ n. p.1 (q.0 n))
