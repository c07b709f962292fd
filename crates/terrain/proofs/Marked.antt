-- The marked examples hold of the definitions. A table of totals or of ranks is right because the neighbour rule, computed at each of the seven tiles, holds; the best route is found by
-- going down the ranks.
use mathlib.Core.Path.{◌≡◌, refl}
use mathlib.Core.Bool.{Bool, true, not, ◌&&◌}
use mathlib.Core.List.{List, [], ◌∷◌}
use Prim.Native.Nat.{ℕ, zero, suc, ◌<◌}
use native.Mathlib.Decide.{ℕ_discrete}
use native.Mathlib.Omega.{arith}
use borrow.Author.Tests.{leb-true, eqb-true, eqb-false, not-true}
use lib.Dec.{eqb, leb}
use lib.IntN.{pos, negsuc}
use lib.ListN.{length}
use Rattle.paths.specs.Lands.{Land}
use Rattle.paths.specs.NeighborRule.{offer, best, want, Rule}
use Rattle.paths.specs.Tables.{at}
use Rattle.paths.proofs.RuleIsRight.{rule_right}
use Rattle.routes.specs.Descents.{Taken, Descent, arrived, down}
use Rattle.routes.specs.Ranks.{multiplier, no_rank}
use Rattle.routes.specs.Turned.{turned}
use Rattle.routes.proofs.RankTables.{sums_ranks}
use Rattle.whole.specs.Euclid.{remainder}
use Rattle.hexes.specs.Answers.{origin}
use Rattle.hexes.specs.Directions.{step_of}
use Rattle.hexes.specs.Limits.{barred, no_way}
use Rattle.hexes.specs.Tiles.{tile, neighbor_of, span, distance_of}
use Rattle.hexes.specs.declared.Tile.{Tile}
use Rattle.hexes.proofs.Chains.{both}
use Rattle.storage.specs.Hexmod.{index_in}
use Rattle.storage.specs.Leaves.{strip_x, strip_y, beside_in, near_in}
use Rattle.storage.specs.Maps.{of_map}
use Rattle.storage.specs.declared.Map.{Map}
use Rattle.terrain.specs.GroundOfMap.{ground_of}
use Rattle.terrain.specs.LandOfMap.{price_of, land_of}
use Rattle.terrain.specs.TilePaths.{LeastTotals}
use Rattle.terrain.specs.TileRoutes.{BestTiles, RankTable}
use Rattle.terrain.proofs.GoingDown.{down_tiles}
use Rattle.terrain.proofs.RanksOfMap.{ranks_in_tiles}
use Rattle.terrain.proofs.RoutesOfMap.{ground_fits}
use Rattle.terrain.proofs.Totals.{Efforts, right_totals}

-- A test that holds of each number below n. It is computed, and then known at each.
abbrev all : (ℕ → Bool) → ℕ → Bool
all p zero = true
all p (suc n) = p n && all p n

each_of : (p : ℕ → Bool) (n : ℕ) → all p n ≡ true → (k : ℕ) → k < n → p k ≡ true
each_of p zero q k h = absurd (omega arith)
each_of p (suc n) q k h = go (ℕ_discrete k n) (both (p n) (all p n) q).0 (each_of p n (both (p n) (all p n) q).1 k)
  where
    go : Dec (k ≡ n) → p n ≡ true → (k < n → p k ≡ true) → p k ≡ true
    go (yes e) last rest = rw e last
    go (no e) last rest = rest (omega arith)

rule_holds : (L : Land) (T : ℕ → ℕ) (s b : ℕ) → all (λ t. eqb (T t) (want L T s b t)) L.tiles ≡ true → Rule L T s b
rule_holds L T s b q = record { each = λ t h. eqb-true (T t) (want L T s b t) (each_of (λ t. eqb (T t) (want L T s b t)) L.tiles q t h) }

takes : (L : Land) (T : ℕ → ℕ) (u d : ℕ) → d < 6 → offer L T u d ≡ T u → all (λ k. not (eqb (offer L T u k) (T u))) d ≡ true → Taken L T u d
takes L T u d h e q =
    record {
      dir = h;
      makes = e;
      smallest = λ k l. eqb-false (offer L T u k) (T u) (not-true (eqb (offer L T u k) (T u)) (each_of (λ k. not (eqb (offer L T u k) (T u))) d q k l));
    }

-- Efforts are unsigned 16-bit numbers. Past the end of their list stands 0.
abbrev fit : List ℕ → Bool
fit [] = true
fit (e ∷ es) = leb e barred && fit es

efforts_fit : (es : List ℕ) → fit es ≡ true → Efforts es
efforts_fit [] q i = omega arith
efforts_fit (e ∷ es) q zero = leb-true e barred (both (leb e barred) (fit es) q).0
efforts_fit (e ∷ es) q (suc i) = efforts_fit es (both (leb e barred) (fit es) q).1 i

-- The map of radius 1 round the origin.
abbrev pub seven : Map
seven = record { centre = origin; radius = 1 }

-- Riding range from the centre, which is barred itself. The tile of index 5 asks an effort of 3, the others ask none.
abbrev pub range_efforts : List ℕ
range_efforts = barred ∷ 0 ∷ 0 ∷ 0 ∷ 0 ∷ 3 ∷ 0 ∷ []

in_range : (budget : ℕ) (totals : List ℕ) → length totals ≡ 7 → Rule (land_of seven range_efforts no_way) (at totals) 0 budget → LeastTotals seven range_efforts origin budget totals
unfolding remainder span distance_of index_in of_map
in_range budget totals size rule =
    right_totals seven (omega arith) range_efforts (efforts_fit range_efforts refl) origin refl budget totals size
    (rule_right (land_of seven range_efforts no_way) (at totals) 0 budget (omega arith) rule)

-- A budget of 4 reaches that tile, and one of 3 does not.
abbrev pub totals_of_four : List ℕ
totals_of_four = 0 ∷ 1 ∷ 1 ∷ 1 ∷ 1 ∷ 4 ∷ 1 ∷ []

pub range_of_four : LeastTotals seven range_efforts origin 4 totals_of_four
unfolding best want price_of remainder step_of neighbor_of span distance_of index_in of_map strip_x strip_y beside_in near_in
range_of_four = in_range 4 totals_of_four refl (rule_holds (land_of seven range_efforts no_way) (at totals_of_four) 0 4 refl)

abbrev pub totals_of_three : List ℕ
totals_of_three = 0 ∷ 1 ∷ 1 ∷ 1 ∷ 1 ∷ no_way ∷ 1 ∷ []

pub range_of_three : LeastTotals seven range_efforts origin 3 totals_of_three
unfolding best want price_of remainder step_of neighbor_of span distance_of index_in of_map strip_x strip_y beside_in near_in
range_of_three = in_range 3 totals_of_three refl (rule_holds (land_of seven range_efforts no_way) (at totals_of_three) 0 3 refl)

-- A route from one side of the centre to the other. The centre asks an effort of 5, the others ask none: so it goes round, in three steps, and of the two ways round by the one whose
-- direction numbers are the smaller list.
abbrev pub route_efforts : List ℕ
route_efforts = 5 ∷ 0 ∷ 0 ∷ 0 ∷ 0 ∷ 0 ∷ 0 ∷ []

abbrev pub east : Tile
east = tile (pos 1) (pos 0)

abbrev pub west : Tile
west = tile (negsuc 0) (pos 0)

abbrev land : Land
land = turned (ground_of seven route_efforts) multiplier

abbrev ranks : List ℕ
ranks = 1 ∷ 2 ∷ 0 ∷ 1 ∷ 2 ∷ 3 ∷ 1 ∷ []

rank_table : RankTable seven route_efforts west ranks
unfolding best want remainder step_of neighbor_of span distance_of index_in of_map strip_x strip_y beside_in near_in
rank_table =
    ranks_in_tiles seven (omega arith) route_efforts (efforts_fit route_efforts refl) west refl ranks refl
    (sums_ranks (ground_fits seven (omega arith) route_efforts) (record { on = omega arith; is_open = refl })
    (rule_right land (at ranks) 2 no_rank (omega arith) (rule_holds land (at ranks) 2 no_rank refl)))

way : Descent land (at ranks) 2 5 (2 ∷ 3 ∷ 4 ∷ [])
unfolding remainder step_of neighbor_of span distance_of index_in of_map strip_x strip_y beside_in near_in
way =
    down (λ (z : ◌≡◌ {A = ℕ} 5 2). omega arith) (takes land (at ranks) 5 2 (omega arith) refl refl)
    (down (λ (z : ◌≡◌ {A = ℕ} 4 2). omega arith) (takes land (at ranks) 4 3 (omega arith) refl refl)
    (down (λ (z : ◌≡◌ {A = ℕ} 6 2). omega arith) (takes land (at ranks) 6 4 (omega arith) refl refl) arrived))

pub route_round : BestTiles seven route_efforts east west (east ∷ tile (pos 1) (negsuc 0) ∷ tile (pos 0) (negsuc 0) ∷ west ∷ [])
unfolding remainder step_of neighbor_of span distance_of index_in of_map
route_round = down_tiles seven (omega arith) route_efforts (efforts_fit route_efforts refl) west refl ranks rank_table east refl (omega arith) (2 ∷ 3 ∷ 4 ∷ []) way
