-- Figures: their numbers are small, so that no sum of them wraps.
use Prim.Native.Nat.{ℕ, zero, suc, ◌+◌, ◌*◌, ◌<◌, ◌≤◌}
use native.Mathlib.Omega.{arith}
use Rattle.hexes.specs.Limits.{range_limit}
use Rattle.rings.specs.Leaves.{legs_of, ring_leg, leg_at, LegFits}
use Rattle.rings.specs.declared.figure.Shape.{Shape}

pub turns_small : (sense i : ℕ) → sense ≤ 1 → i < 6 → (1 + 4 * sense) * i ≤ 25
turns_small zero i h k = omega arith
turns_small (suc zero) i h k = omega arith
turns_small (suc (suc sense)) i h k = absurd (omega arith)

ring_leg_small : (n i : ℕ) → n ≤ range_limit → ring_leg n i ≤ range_limit
unfolding ring_leg
ring_leg_small zero zero h = omega arith
ring_leg_small zero (suc i) h = omega arith
ring_leg_small (suc n) i h = h

pub leg_fits : (shape : Shape) (direction sense n i : ℕ) → direction ≤ 5 → sense ≤ 1 → n ≤ range_limit → i < legs_of shape → LegFits (leg_at shape direction sense n i)
leg_fits Shape.Ring direction sense n i d s h k = record { fits_out = omega (arith, turns_small sense i s k); fits_sense = s; fits_count = omega (arith, ring_leg_small n i h) }
leg_fits Shape.Edge direction sense n i d s h k = record { fits_out = omega arith; fits_sense = s; fits_count = omega arith }
leg_fits Shape.Corner direction sense n i d s h k = record { fits_out = omega arith; fits_sense = omega arith; fits_count = omega arith }
