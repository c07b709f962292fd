-- What the machine's signed numbers leave to be shown. A signed local holds bits, so what is read from it is `to_z w (of_z w z)`, which is z where z fits.
use mathlib.Core.Path.{◌≡◌, ◌∙◌, ap, sym}
use mathlib.Core.Bool.{false}
use Prim.Native.Nat.{◌<◌, ◌≤◌, ◌^◌}
use native.Mathlib.Omega.{arith}
use lib.Dec.{T}
use lib.IntN.{ℤ, pos, nat_abs, ◌+ℤ◌, ◌-ℤ◌}
use lib.Signed.{mag, non_neg, lt_z}
use mir.Syntax.{Width, w32, w64}
use mir.Val.{SFits, Fits, to_z, of_z, hbits}
use mir.Facts.{sfits_widen, to_z-of_z}
use borrow.Author.Rules.{rules}
use Rattle.whole.proofs.Differences.{by1, by2, by4}
use Rattle.whole.proofs.Kit.{dif, dif_b}

-- Read back from a call's result: `read w64 c.f.result c.f.type_inv`. From a parameter: `to_z-of_z c.ranges.x`.
pub read : (w : Width) (z : ℤ) → mag z < 2 ^ hbits w → to_z w (of_z w z) ≡ z
read w z h = to_z-of_z {w = w} (record { sfits = h })

-- Read back from `x as i64`, at a number that fits 32 bits.
pub read_wide : {z : ℤ} → SFits w32 z → to_z w64 (of_z w64 (to_z w32 (of_z w32 z))) ≡ z
read_wide f = ap (λ (y : ℤ). to_z w64 (of_z w64 y)) (to_z-of_z f) ∙ to_z-of_z {w = w64} (sfits_widen tt f)

-- What is asked of `x as i64`, at a number that fits 32 bits.
pub widens : {z : ℤ} → SFits w32 z → SFits w64 (to_z w32 (of_z w32 z))
widens f = rw (to_z-of_z f) (sfits_widen tt f)

-- The sum and the difference of two widened numbers.
pub wide_sum : (a b a' b' : ℤ) → a' ≡ a → b' ≡ b → SFits w32 a → SFits w32 b → SFits w64 (a' +ℤ b') × (nat_abs (a' +ℤ b') ≤ 2 ^ 32)
wide_sum = by4 _ (simp dif_b (omega arith))

pub wide_difference : (a b a' b' : ℤ) → a' ≡ a → b' ≡ b → SFits w32 a → SFits w32 b → SFits w64 (a' -ℤ b') × (nat_abs (a' -ℤ b') ≤ 2 ^ 32)
wide_difference = by4 _ (simp dif_b (omega arith))

-- A number whose size is bounded fits.
pub small_fits : (z : ℤ) → nat_abs z < 2 ^ 31 → SFits w32 z
small_fits = by1 _ (simp dif_b (omega arith))

-- `==` on signed numbers tells of their bits; of numbers that fit it tells of the numbers.
pub same : (w : Width) (x y : ℤ) → SFits w x → SFits w y → of_z w x ≡ of_z w y → x ≡ y
same w x y f g e = sym (to_z-of_z f) ∙ ap (to_z w) e ∙ to_z-of_z g

-- For `search`: the usual rules, and that a number that fits 32 bits fits 64.
pub ruleset wide_needs = (rules, sfits_widen)

-- A number that the test `z < 0` let through is a natural number, and casts to an unsigned one.
pub natural : (z z' : ℤ) → z' ≡ z → SFits w64 z → lt_z z' (pos 0) ≡ false → (T (non_neg z') × Fits w64 (nat_abs z')) × (z ≡ pos (nat_abs z'))
natural = by2 _ (simp dif (omega arith))
