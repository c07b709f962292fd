-- `slant_of` meets its contract: the sums fit, each of the two known modes is a case of the definition, and a slant fits 32 bits.
use mathlib.Core.Path.{◌≡◌, ap, ap₂, ◌∙◌}
use Prim.Native.Nat.{ℕ, ◌<◌, ◌^◌}
use native.Mathlib.Omega.{arith}
use lib.IntN.{ℤ, pos, ◌+ℤ◌, ◌-ℤ◌}
use lib.Signed.{mag}
use mir.Syntax.{w32, w64}
use mir.Val.{SFits, to_z, of_z}
use mir.Facts.{to_z-of_z, to_z_pos}
use borrow.Author.Rules.{rules}
use Rattle.whole.specs.Euclid.{quotient, remainder}
use Rattle.whole.proofs.Differences.{by3}
use Rattle.whole.proofs.Euclid.{remainder_below}
use Rattle.whole.proofs.Kit.{dif}
use Rattle.whole.proofs.Machine.{read, read_wide}
use Rattle.conversions.specs.Offset.{parity, slant_of}
use Rattle.conversions.proofs.OffsetLaws.{slant_fits}
use Rattle.conversions.proofs.offset.slant_of.Goals as goal
use Rattle.conversions.proofs.offset.slant_of.Goals.{After-half, After-half-in-1}

sums_fit : (z z' p : ℤ) → z' ≡ z → SFits w32 z → p ≡ parity z → SFits w64 (z' +ℤ p) × SFits w64 (z' -ℤ p)
sums_fit = by3 _ (simp dif (omega arith))

-- What is read back from p.
p_is : {z : ℤ} {p : ℕ} → SFits w32 z → p ≡ remainder (to_z w64 (of_z w64 (to_z w32 (of_z w32 z)))) 2 → to_z w64 p ≡ parity z
p_is {z} {p} f e =
    let same : p ≡ remainder z 2 = e ∙ ap (λ (y : ℤ). remainder y 2) (read_wide f) in
    to_z_pos w64 (omega (arith, remainder_below z 2 (omega arith))) ∙ ap pos same

-- A half that is the slant of z is cast to 32 bits and read back.
Cast : ℕ → ℤ → ℤ → Type 0
Cast mode z half = SFits w32 (to_z w64 (of_z w64 half)) × (to_z w32 (of_z w32 (to_z w64 (of_z w64 half))) ≡ slant_of mode z)

cast : (mode : ℕ) (z half : ℤ) → SFits w32 z → mag half < 2 ^ 63 → half ≡ slant_of mode z → Cast mode z half
unfolding Cast
cast mode z half f i e =
    let same = read w64 half i ∙ e in
    let fits : SFits w32 (to_z w64 (of_z w64 half)) = rw same (slant_fits mode z f) in
    (fits, to_z-of_z fits ∙ same)

even : (c : After-half) → Cast c.args.mode c.args.z c.half.result
unfolding slant_of
even c =
    let z = read_wide c.ranges.z in
    let p = p_is c.ranges.z c.wrapped-p.ensures in
    let sum = to_z-of_z (sums_fit _ _ _ z c.ranges.z p).0 ∙ ap₂ ◌+ℤ◌ z p in
    cast _ _ _ c.ranges.z c.half.type_inv (rw c.in-0.is (c.half.ensures ∙ ap (λ (y : ℤ). quotient y 2) sum))

odd : (c : After-half-in-1) → Cast c.args.mode c.args.z c.half-in-1.result
unfolding slant_of
odd c =
    let z = read_wide c.ranges.z in
    let p = p_is c.ranges.z c.wrapped-p.ensures in
    let gap = to_z-of_z (sums_fit _ _ _ z c.ranges.z p).1 ∙ ap₂ ◌-ℤ◌ z p in
    cast _ _ _ c.ranges.z c.half-in-1.type_inv (rw c.in-1.is (c.half-in-1.ensures ∙ ap (λ (y : ℤ). quotient y 2) gap))

pub overflow_cast-result : goal.overflow_cast-result
unfolding Cast
overflow_cast-result c = (even c).0

pub overflow_cast-result-in-1 : goal.overflow_cast-result-in-1
unfolding Cast
overflow_cast-result-in-1 c = (odd c).0

pub returns-in-0 : goal.returns-in-0
unfolding Cast
returns-in-0 c = (search rules, (even c).1)

pub returns-in-1 : goal.returns-in-1
unfolding Cast
returns-in-1 c = (search rules, (odd c).1)
