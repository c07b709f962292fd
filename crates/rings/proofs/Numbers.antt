-- Laws of the counts.
use mathlib.Core.Path.{◌≡◌, ap}
use Prim.Native.Nat.{ℕ, zero, suc, ◌+◌, ◌*◌, ◌/◌, ◌%◌, ◌≤◌}
use native.Mathlib.Omega.{arith}
use Rattle.hexes.specs.Limits.{range_limit}
use Rattle.rings.specs.Counts.{wedge_count}
use Rattle.rings.specs.Leaves.{tiles_at}
use Rattle.rings.specs.declared.figure.Shape.{Shape}

-- The wedge's count, with the half taken before the product: of n where it is even, and of n + 3 where n is odd.
pub wedge_even : (n : ℕ) → n % 2 ≡ 0 → n / 2 * (n + 3) + 1 ≡ wedge_count n
unfolding wedge_count
wedge_even n e =
    let d : n ≡ 2 * (n / 2) = omega arith in
    let q : n * (n + 3) ≡ 2 * (n / 2) * (n + 3) = ap (λ (t : ℕ). t * (n + 3)) d in
    omega arith

pub wedge_odd : (n : ℕ) → (n % 2 ≡ 0 → ⊥) → n * ((n + 3) / 2) + 1 ≡ wedge_count n
unfolding wedge_count
wedge_odd n f =
    let d : n + 3 ≡ 2 * ((n + 3) / 2) = omega arith in
    let q : n * (n + 3) ≡ n * (2 * ((n + 3) / 2)) = ap (λ (t : ℕ). n * t) d in
    omega arith

-- No shape has many tiles at a range.
pub tiles_most : (shape : Shape) (n : ℕ) → n ≤ range_limit → tiles_at shape n ≤ 6000
tiles_most Shape.Ring zero h = omega arith
tiles_most Shape.Ring (suc n) h = omega arith
tiles_most Shape.Edge n h = omega arith
tiles_most Shape.Corner n h = omega arith
