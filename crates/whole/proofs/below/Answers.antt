-- `below` meets its contract. With z below 0, z + 1 is at most 0 and its opposite fits, however small z is.
use mathlib.Core.Path.{◌≡◌}
use Prim.Native.Nat.{◌<◌, ◌^◌}
use native.Mathlib.Omega.{arith}
use lib.Dec.{T}
use lib.IntN.{ℤ, pos, negsuc, nat_abs, ◌+ℤ◌, ◌-ℤ◌}
use lib.Signed.{non_neg, ◌<ℤ◌}
use mir.Syntax.{w64}
use mir.Val.{SFits, Fits}
use mir.Facts.{to_z-of_z}
use Rattle.whole.proofs.Differences.{by2, by3, by4}
use Rattle.whole.proofs.Kit.{dif}
use Rattle.whole.proofs.below.Goals as goal

next_fits : (z z' : ℤ) → z' ≡ z → SFits w64 z → z <ℤ pos 0 → SFits w64 (z' +ℤ pos 1)
next_fits = by2 _ (simp dif (omega arith))

opposite_fits : (z z' n : ℤ) → z' ≡ z → SFits w64 z → z <ℤ pos 0 → n ≡ z' +ℤ pos 1 → SFits w64 (pos 0 -ℤ n)
opposite_fits = by3 _ (simp dif (omega arith))

opposite_is : (z z' n o : ℤ) → z' ≡ z → SFits w64 z → z <ℤ pos 0 → n ≡ z' +ℤ pos 1 → o ≡ pos 0 -ℤ n → (T (non_neg o) × Fits w64 (nat_abs o)) × ((z ≡ negsuc (nat_abs o)) × (nat_abs o < 2 ^ 63))
opposite_is = by4 _ (simp dif (omega arith))

pub overflow_add-result : goal.overflow_add-result
overflow_add-result c = next_fits _ _ (to_z-of_z c.ranges.z) c.ranges.z c.requires

pub overflow_sub-result : goal.overflow_sub-result
overflow_sub-result c = opposite_fits _ _ _ (to_z-of_z c.ranges.z) c.ranges.z c.requires (to_z-of_z (overflow_add-result c))

pub overflow_cast-result : goal.overflow_cast-result
overflow_cast-result c = (opposite_is _ _ _ _ (to_z-of_z c.ranges.z) c.ranges.z c.requires (to_z-of_z (overflow_add-result c)) (to_z-of_z (overflow_sub-result c))).0

pub returns : goal.returns
returns c = let all = (opposite_is _ _ _ _ (to_z-of_z c.ranges.z) c.ranges.z c.requires (to_z-of_z (overflow_add-result c)) (to_z-of_z (overflow_sub-result c))).1 in record { z_value = all.0; upper_bound = all.1 }
