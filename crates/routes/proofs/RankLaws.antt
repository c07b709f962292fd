-- A tile has one rank. It splits in one way into cost and steps, and is the mark exactly if there is no route.
use mathlib.Core.Path.{◌≡◌, sym, ◌∙◌}
use mathlib.Core.Logic.{◌↔◌}
use mathlib.Core.List.{List}
use Prim.Native.Nat.{ℕ, ◌+◌, ◌*◌, ◌/◌, ◌%◌, ◌≤◌, ◌<◌}
use native.Mathlib.Omega.{arith}
use lib.ListN.{length}
use Rattle.routes.specs.Grounds.{Ground}
use Rattle.routes.specs.Routes.{Route, there, first, NoRoute}
use Rattle.routes.specs.Ranks.{multiplier, no_rank, LeastCost, FewestSteps, RankOf, near, far, Fits}
use Rattle.routes.proofs.LeastSums.{Straight, straight}

pub cost_unique : {G : Ground} {e u v x : ℕ} → LeastCost G e u v → LeastCost G e u x → v ≡ x
cost_unique {v = v} {x = x} a b = omega (arith, a.least b.dirs x b.route, b.least a.dirs v a.route)

pub steps_unique : {G : Ground} {e u v n k : ℕ} → FewestSteps G e u v n → FewestSteps G e u v k → n ≡ k
steps_unique a b = omega (arith, a.steps, b.steps, a.fewest b.dirs b.route, b.fewest a.dirs a.route)

pub rank_unique : {G : Ground} {e u r r' : ℕ} → RankOf G e u r → RankOf G e u r' → r ≡ r'
rank_unique (near {v = v} {n = n} a b p) (near {v = x} {n = k} a' b' p') =
    let z : v ≡ x = cost_unique a a' in
    omega (arith, steps_unique b (rw (← z) at b'))
rank_unique (near a b p) (far c q) = absurd (c a.dirs _ a.route)
rank_unique (far c q) (near a b p) = absurd (c a.dirs _ a.route)
rank_unique (far c q) (far c' q') = q ∙ sym q'

-- The fewest steps at least cost are fewer than there are tiles.
pub steps_few : {G : Ground} {e u v n : ℕ} → LeastCost G e u v → FewestSteps G e u v n → n < G.tiles
steps_few {G} {e} {u} {v} {n} a b = go (straight a.route)
  where
    go : Straight G e u v → n < G.tiles
    go c =
        let z : c.cost ≡ v = omega (arith, c.costs, a.least c.dirs c.cost c.route) in
        omega (arith, c.few, b.fewest c.dirs (rw z at c.route))

-- So a rank splits into cost and steps by a division.
pub rank_splits : {G : Ground} {e u v n r : ℕ} → Fits G → LeastCost G e u v → FewestSteps G e u v n → r ≡ v * multiplier + n
    → (r / multiplier ≡ v) × (r % multiplier ≡ n)
rank_splits F a b q = let k = steps_few a b in (omega (arith, F.tiles), omega (arith, F.tiles))

-- Read off a rank that is not the mark: the least cost and the fewest steps.
pub rank_reads : {G : Ground} {e u r : ℕ} → Fits G → RankOf G e u r → r < no_rank → LeastCost G e u (r / multiplier) × FewestSteps G e u (r / multiplier) (r % multiplier)
rank_reads F (near a b q) m = let z = rank_splits F a b q in (rw z.0 a, rw (z.0, z.1) b)
rank_reads F (far c q) m = absurd (omega arith)

-- The cost of a route is at most as many greatest efforts as it has steps.
route_capped : {G : Ground} {e u v : ℕ} {ds : List ℕ} → Fits G → Route G e u ds v → v ≤ length ds * multiplier
route_capped F (there o) = omega arith
route_capped F (first o st r) = omega (arith, route_capped F r, st.unbarred, F.efforts)

pub rank_below : {G : Ground} {e u v n : ℕ} → Fits G → LeastCost G e u v → FewestSteps G e u v n → v * multiplier + n < no_rank
rank_below F a b = omega (arith, steps_few a b, b.steps, route_capped F b.route, F.tiles)

pub rank_none : {G : Ground} {e u r : ℕ} → Fits G → RankOf G e u r → (r ≡ no_rank) ↔ NoRoute G e u
rank_none F (near a b q) = (λ z. absurd (omega (arith, rank_below F a b)), λ c. absurd (c a.dirs _ a.route))
rank_none F (far c q) = (λ z. c, λ c'. q)

pub rank_some : {G : Ground} {e u r v : ℕ} {ds : List ℕ} → Fits G → RankOf G e u r → Route G e u ds v → r < no_rank
rank_some F (near a b q) p = omega (arith, rank_below F a b)
rank_some {v = v} {ds = ds} F (far c q) p = absurd (c ds v p)
