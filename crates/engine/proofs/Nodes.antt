-- A winner tree in which one node may be wrong, what a store does to it, and what the root says of the leaves.
use Prim.Native.Nat.{ℕ, zero, suc, ◌+◌, ◌-◌, ◌*◌, ◌/◌, ◌<◌, ◌≤◌, min}
use native.Mathlib.Omega.{arith}
use native.Mathlib.Decide.{ℕ_discrete, dec_lt}
use mathlib.Core.Path.{◌≡◌, sym, ap, ◌∙◌}
use mathlib.Core.List.{List}
use lib.ListN.{get_or, replicate, get_or-replicate, length-replicate}
use Rattle.engine.specs.Leaves.{indices}
use Rattle.engine.specs.Trees.{leaf, Node, Winners}

-- Each node is right but the parent of k.
abbrev pub But : ℕ → List ℕ → ℕ → Type 0
But a H k = (q : ℕ) → 1 ≤ q → q < a → (q ≡ k / 2 → ⊥) → Node H q

-- The root is the smallest leaf.
module _ (a : ℕ) (H : List ℕ) (w : Winners a H) where
  parent : (k : ℕ) → 1 < k → k < 2 * a → get_or H (k / 2) 0 ≤ get_or H k 0
  parent k h₁ h₂ = go (ℕ_discrete k (2 * (k / 2)))
    where
      node : Node H (k / 2)
      node = w.won (k / 2) (omega (arith, h₁)) (omega (arith, h₂))

      go : Dec (k ≡ 2 * (k / 2)) → get_or H (k / 2) 0 ≤ get_or H k 0
      go (yes e) = omega (arith, node, ap (λ (m : ℕ). get_or H m 0) e)
      go (no n) = let e : k ≡ 2 * (k / 2) + 1 = omega (arith, n) in omega (arith, node, ap (λ (m : ℕ). get_or H m 0) e)

  -- The root is at most every node up to number n.
  under : (n k : ℕ) → k ≤ n → 1 ≤ k → k < 2 * a → get_or H 1 0 ≤ get_or H k 0
  under zero k h h₁ h₂ = absurd (omega (arith, h, h₁))
  under (suc n) k h h₁ h₂ =
      elim (ℕ_discrete k 1) [
        | yes e ↦ omega (arith, ap (λ (m : ℕ). get_or H m 0) e)
        | no m ↦ omega (arith, parent k (omega (arith, h₁, m)) h₂, under n (k / 2) (omega (arith, h, h₁, m)) (omega (arith, h₁, m)) (omega (arith, h₂)))
      ]

  pub root_least : (i : ℕ) → i < a → get_or H 1 0 ≤ leaf a H i
  root_least i h = under (a + i) (a + i) (omega arith) (omega (arith, h)) (omega (arith, h))

  -- Some leaf holds what node k holds.
  abbrev Held : ℕ → Type 0
  Held k = (i : ℕ) × (i < a) × (leaf a H i ≡ get_or H k 0)

  -- Node k holds what one of the two below it holds, or is a leaf itself.
  held_next : (k : ℕ) → 1 ≤ k → k < 2 * a → (k < a → Held (2 * k)) → (k < a → Held (2 * k + 1)) → Held k
  held_next k h₁ h₂ left right = go (dec_lt k a)
    where
      of_two : k < a → Dec (get_or H (2 * k) 0 < get_or H (2 * k + 1) 0) → Held k
      of_two l (yes s) = let x = left l in (x.0, x.1, omega (arith, x.2, w.won k h₁ l, s))
      of_two l (no s) = let x = right l in (x.0, x.1, omega (arith, x.2, w.won k h₁ l, s))

      go : Dec (k < a) → Held k
      go (yes l) = of_two l (dec_lt (get_or H (2 * k) 0) (get_or H (2 * k + 1) 0))
      go (no m) = let e : a + (k - a) ≡ k = omega (arith, m) in (k - a, omega (arith, m, h₂), ap (λ (j : ℕ). get_or H j 0) e)

  -- So does each of the last n nodes.
  held : (n k : ℕ) → 2 * a ≤ k + n → 1 ≤ k → k < 2 * a → Held k
  held zero k h h₁ h₂ = absurd (omega (arith, h, h₂))
  held (suc n) k h h₁ h₂ =
      held_next k h₁ h₂
      (λ l. held n (2 * k) (omega (arith, h, h₁)) (omega (arith, h₁)) (omega (arith, l)))
      (λ l. held n (2 * k + 1) (omega (arith, h, h₁)) (omega arith) (omega (arith, l)))

  pub root_held : Held 1
  root_held = held (2 * a) 1 (omega arith) (omega arith) (omega (arith, w.some))

-- All nodes alike.
pub winners_alike : (a n v : ℕ) → 0 < a → a ≤ indices → 2 * a ≤ n → Winners a (replicate n v)
winners_alike a n v o f h =
    record {
      some = o;
      few = f;
      room = omega (arith, h, length-replicate {A = ℕ} n v);
      won = λ q h₁ h₂.
          get_or-replicate n q v 0 (omega (arith, h, h₂)) ∙ same ∙ sym (λ i. min (get_or-replicate n (2 * q) v 0 (omega (arith, h, h₂)) i) (get_or-replicate n (2 * q + 1) v 0 (omega (arith, h, h₂)) i));
    }
  where
    same : v ≡ min v v
    same = omega arith
