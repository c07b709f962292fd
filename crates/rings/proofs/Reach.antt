-- How far figures reach: a step is no longer than 1, so k of them lead k further at most.
use Prim.Native.Nat.{ℕ, ◌+◌, ◌≤◌}
use native.Mathlib.Nat.{mul-le-mul_left}
use native.Mathlib.Omega.{arith}
use lib.IntN.{ℤ, pos, nat_abs, ◌+ℤ◌, ◌*ℤ◌}
use Rattle.whole.proofs.Differences.{by1, by2}
use Rattle.whole.proofs.Kit.{dif, dif_b}
use Rattle.hexes.specs.Directions.{step_of}
use Rattle.hexes.specs.declared.Tile.{Tile}
use Rattle.hexes.proofs.Metric.{step_small}
use Rattle.rings.specs.Leaves.{Near}
use Rattle.rings.specs.Rings.{along}

pub unit_times : (k : ℕ) (s : ℤ) → nat_abs s ≤ 1 → nat_abs (pos k *ℤ s) ≤ k
unit_times k = by1 _ (λ a b. simp dif_b (λ h. omega (arith, mul-le-mul_left k h.0, mul-le-mul_left k h.1)))

size_sum : (x y : ℤ) → nat_abs (x +ℤ y) ≤ nat_abs x + nat_abs y
size_sum = by2 _ (simp dif (omega arith))

pub near_along : (t : Tile) (d k m : ℕ) → Near t m → Near (along t d k) (m + k)
unfolding along
near_along t d k m h =
    let s = step_small d in
    record {
      near_x = omega (arith, size_sum t.x (pos k *ℤ (step_of d).0), unit_times k (step_of d).0 s.0, h.near_x);
      near_y = omega (arith, size_sum t.y (pos k *ℤ (step_of d).1), unit_times k (step_of d).1 s.1, h.near_y);
    }

pub near_more : (t : Tile) {m n : ℕ} → m ≤ n → Near t m → Near t n
near_more t l h = record { near_x = omega (arith, h.near_x); near_y = omega (arith, h.near_y) }
