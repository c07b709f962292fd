-- No two routes are each better than the other, so the best route is unique. Its cost is the least, and its steps are the fewest at that cost.
use mathlib.Core.Path.{◌≡◌, refl, sym, ap, ◌∙◌}
use mathlib.Core.Logic.{◌⊎◌, inl, inr}
use mathlib.Core.List.{List, [], ◌∷◌}
use Prim.Native.Nat.{ℕ, ◌≤◌}
use native.Mathlib.Omega.{arith}
use lib.ListN.{length}
use Rattle.routes.specs.Grounds.{Ground}
use Rattle.routes.specs.Routes.{Route, there, first, Smaller, Better, BestRoute}
use Rattle.routes.specs.Ranks.{LeastCost, FewestSteps}

smaller_once : (ds es : List ℕ) → Smaller ds es → Smaller es ds → ⊥
smaller_once [] es a b = a
smaller_once (d ∷ ds) [] a b = a
smaller_once (d ∷ ds) (k ∷ es) (inl p) (inl q) = omega arith
smaller_once (d ∷ ds) (k ∷ es) (inl p) (inr (q, b)) = omega arith
smaller_once (d ∷ ds) (k ∷ es) (inr (p, a)) (inl q) = omega arith
smaller_once (d ∷ ds) (k ∷ es) (inr (p, a)) (inr (q, b)) = smaller_once ds es a b

better_once : (v x : ℕ) (ds es : List ℕ) → Better v ds x es → Better x es v ds → ⊥
better_once v x ds es (inl p) (inl q) = omega arith
better_once v x ds es (inl p) (inr (q, b)) = omega arith
better_once v x ds es (inr (p, a)) (inl q) = omega arith
better_once v x ds es (inr (p, inl a)) (inr (q, inl b)) = omega arith
better_once v x ds es (inr (p, inl a)) (inr (q, inr (b, l))) = omega arith
better_once v x ds es (inr (p, inr (a, k))) (inr (q, inl b)) = omega arith
better_once v x ds es (inr (p, inr (a, k))) (inr (q, inr (b, l))) = smaller_once ds es k l

-- The directions of a route tell its cost, wherever it ends.
costs_same : {G : Ground} {e e' u v x : ℕ} {ds : List ℕ} → Route G e u ds v → Route G e' u ds x → v ≡ x
costs_same (there o) (there o') = refl
costs_same {e' = e'} (first {t = t} {w = w} o st r) (first {t = t'} {w = w'} o' st' r') =
    let q : t' ≡ t = sym st'.leads ∙ st.leads in
    let z : w ≡ w' = cc (q, st.price, st'.price) in
    omega (arith, costs_same {e' = e'} r (rw q at r'))

pub route_cost : {G : Ground} {e u v x : ℕ} {ds : List ℕ} → Route G e u ds v → Route G e u ds x → v ≡ x
route_cost r r' = costs_same r r'

-- One route is the best: one list of directions, hence one number of steps, and one cost.
pub best_unique : {G : Ground} {s e : ℕ} {ds es : List ℕ} {v x : ℕ} → BestRoute G s e ds v → BestRoute G s e es x → (ds ≡ es) × (v ≡ x)
best_unique {ds = ds} {es = es} {v = v} {x = x} a b = go (a.best es x b.route) (b.best ds v a.route)
  where
    same : ds ≡ es → (ds ≡ es) × (v ≡ x)
    same q = (q, route_cost a.route (rw (← q) at b.route))

    go : (ds ≡ es) ⊎ Better v ds x es → (es ≡ ds) ⊎ Better x es v ds → (ds ≡ es) × (v ≡ x)
    go (inl q) c = same q
    go (inr p) (inl q) = same (sym q)
    go (inr p) (inr q) = absurd (better_once v x ds es p q)

module _ {G : Ground} {s e : ℕ} {ds : List ℕ} {v : ℕ} (B : BestRoute G s e ds v) where
  pub best_least : LeastCost G e s v
  best_least = record { dirs = ds; route = B.route; least = λ es x r. go es x r (B.best es x r) }
    where
      go : (es : List ℕ) (x : ℕ) → Route G e s es x → (ds ≡ es) ⊎ Better v ds x es → v ≤ x
      go es x r (inl q) = omega (arith, route_cost B.route (rw (← q) at r))
      go es x r (inr (inl h)) = omega arith
      go es x r (inr (inr (z, h))) = omega arith

  pub best_fewest : FewestSteps G e s v (length ds)
  best_fewest = record { dirs = ds; route = B.route; steps = refl; fewest = λ es r. go es (B.best es v r) }
    where
      go : (es : List ℕ) → (ds ≡ es) ⊎ Better v ds v es → length ds ≤ length es
      go es (inl q) = omega (arith, ap length q)
      go es (inr (inl h)) = absurd (omega arith)
      go es (inr (inr (z, inl h))) = omega arith
      go es (inr (inr (z, inr (h, k)))) = omega arith
