-- Going down the ranks from a tile that has one ends at the end, by the best route.
use mathlib.Core.Path.{◌≡◌}
use mathlib.Core.Logic.{◌⊎◌, inl, inr, ⊎_elim, ◌↔◌}
use mathlib.Core.List.{List}
use Prim.Native.Nat.{ℕ, suc, ◌/◌, ◌%◌, ◌<◌}
use native.Mathlib.Decide.{dec_lt}
use native.Mathlib.Omega.{arith}
use lib.ListN.{length}
use Rattle.paths.specs.Lands.{Walk, Least}
use Rattle.routes.specs.Grounds.{Ground, OpenTile}
use Rattle.routes.specs.Routes.{Route, NoRoute, Better, BestRoute}
use Rattle.routes.specs.Ranks.{multiplier, no_rank, LeastCost, FewestSteps, RankOf, near, far, Ranks, Fits}
use Rattle.routes.specs.Turned.{turned, RightSums}
use Rattle.routes.specs.Descents.{Descent}
use Rattle.routes.proofs.Turning.{route_end, route_walk, Routed, walk_route}
use Rattle.routes.proofs.LeastSums.{least_cost, fewest_steps}
use Rattle.routes.proofs.RankLaws.{rank_splits, rank_none}
use Rattle.routes.proofs.RankTables.{ranks_sums}
use Rattle.routes.proofs.Descending.{descend, descent_walk, descent_first}

-- The list ds is the best route from s, and the rank of s tells its cost and its steps.
pub record BestDown (G : Ground) (e : ℕ) (T : ℕ → ℕ) (s : ℕ) (ds : List ℕ) : Type 0 where
  pub best : BestRoute G s e ds (T s / multiplier)
  pub steps : length ds ≡ T s % multiplier

module _ {G : Ground} {e : ℕ} {T : ℕ → ℕ} (F : Fits G) (K : Ranks G e T) {s : ℕ} (hs : s < G.tiles) where
  -- The rank is the mark exactly if there is no route.
  pub ranks_none : (T s ≡ no_rank) ↔ NoRoute G e s
  ranks_none = rank_none F (K.each s hs)

  module _ (m : T s < no_rank) where
    -- A route ends at e, so e is open, and the ranks are least sums.
    o : OpenTile G e
    o = go (K.each s hs)
      where
        go : RankOf G e s (T s) → OpenTile G e
        go (near a b q) = route_end a.route
        go (far c q) = absurd (omega arith)

    R : RightSums G e T
    R = ranks_sums F o K

    pub down_ends : (ds : List ℕ) × Descent (turned G multiplier) T e s ds
    down_ends = descend (turned G multiplier) T e no_rank o.on R (suc (T s)) s (omega arith) hs m

    pub down_best : {ds : List ℕ} → Descent (turned G multiplier) T e s ds → BestDown G e T s ds
    down_best {ds} D = record { best = rw z.0 B; steps = omega (arith, z.1) }
      where
        p : Walk (turned G multiplier) e ds s (T s)
        p = descent_walk (turned G multiplier) T e no_rank o.on R hs m D

        q : Routed G multiplier e s ds (T s)
        q = walk_route G multiplier o p

        l : Least (turned G multiplier) e s (T s)
        l = record { dirs = ds; path = p; least = (R.found s hs m).0.least }

        a : LeastCost G e s q.cost
        a = least_cost l q.route q.splits F

        f : FewestSteps G e s q.cost (length ds)
        f = fewest_steps l q.route q.splits

        go : (es : List ℕ) (x : ℕ) → Route G e s es x → Dec (q.cost < x) → Dec (length ds < length es) → (ds ≡ es) ⊎ Better q.cost ds x es
        go es x r (yes h) k = inr (inl h)
        go es x r (no h) (yes k) = inr (inr (omega (arith, a.least es x r), inl k))
        go es x r (no h) (no k) =
            let i : x ≡ q.cost = omega (arith, a.least es x r) in
            let j : length ds ≡ length es = omega (arith, f.fewest es (rw i at r)) in
            ⊎_elim (λ y. inl y) (λ y. inr (inr (omega arith, inr (j, y))))
            (descent_first (turned G multiplier) T e no_rank o.on R hs m D (route_walk G multiplier r) (omega (arith, q.splits)))

        B : BestRoute G s e ds q.cost
        B = record { route = q.route; best = λ es x r. go es x r (dec_lt q.cost x) (dec_lt (length ds) (length es)) }

        z : (T s / multiplier ≡ q.cost) × (T s % multiplier ≡ length ds)
        z = rank_splits F a f q.splits
