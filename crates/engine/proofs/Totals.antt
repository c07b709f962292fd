-- What a leaf tells, and what it adds to the measure.
use mathlib.Core.Path.{◌≡◌, ap}
use mathlib.Core.Bool.{Bool, cond}
use Prim.Native.Nat.{ℕ, ◌+◌, ◌-◌, ◌*◌, ◌/◌, ◌≤◌, ◌<◌}
use native.Mathlib.Omega.{arith}
use borrow.Author.Tests.{lt-ltb, le-ltb}
use Rattle.engine.specs.Leaves.{indices, shut, largest_total, open_leaf, closed_leaf, total_of, weight_of}

pub total_below : (x : ℕ) → x < shut → total_of x ≡ x / indices
unfolding total_of
total_below x h = ap (λ (t : Bool). cond t (x / indices) (x - shut)) (lt-ltb x shut h)

pub total_above : (x : ℕ) → shut ≤ x → total_of x ≡ x - shut
unfolding total_of
total_above x h = ap (λ (t : Bool). cond t (x / indices) (x - shut)) (le-ltb x shut h)

pub weight_below : (x : ℕ) → x < shut → weight_of x ≡ 2 * total_of x + 1
unfolding weight_of
weight_below x h = ap (λ (t : Bool). 2 * total_of x + cond t 1 0) (lt-ltb x shut h)

pub weight_above : (x : ℕ) → shut ≤ x → weight_of x ≡ 2 * total_of x
unfolding weight_of
weight_above x h = omega (arith, ap (λ (t : Bool). 2 * total_of x + cond t 1 0) (le-ltb x shut h))

pub weight_least : (x : ℕ) → 2 * total_of x ≤ weight_of x
unfolding weight_of
weight_least x = omega arith

-- An open leaf.
module _ (total i : ℕ) (h : total ≤ largest_total) (hi : i < indices) where
  pub open_below : open_leaf total i < shut
  open_below = omega arith

  pub open_total : total_of (open_leaf total i) ≡ total
  open_total = omega (arith, total_below (open_leaf total i) open_below)

-- A closed leaf.
pub closed_total : (total : ℕ) → total_of (closed_leaf total) ≡ total
closed_total total = omega (arith, total_above (closed_leaf total) (omega arith))
