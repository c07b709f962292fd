-- `wrapped` meets its contract: the two cases of the remainder's definition are the two ways through the code.
use mathlib.Core.Path.{◌∙◌, sym}
use Prim.Native.Nat.{◌<◌}
use native.Mathlib.Nat.{mod-lt}
use native.Mathlib.Omega.{arith}
use lib.IntN.{nat_abs}
use mir.Syntax.{w64}
use mir.Val.{to_z, of_z}
use mir.Facts.{to_z-of_z}
use Rattle.whole.proofs.Euclid.{remainder_natural, remainder_negative, remainder_by_zero}
use Rattle.whole.proofs.Machine.{natural}
use Rattle.whole.proofs.wrapped.Goals as goal

pub returns-then-m-eq0 : goal.returns-then-m-eq0
returns-then-m-eq0 c = remainder_by_zero _ _ c.if-m-eq0.true

pub overflow_sub-result : goal.overflow_sub-result
overflow_sub-result c = let p : 0 < c.args.m = omega arith in omega (arith, mod-lt c.below.result p)

pub overflow_cast-result-else-z-lt0 : goal.overflow_cast-result-else-z-lt0
overflow_cast-result-else-z-lt0 c = let f = c.ranges.z in (natural _ _ (to_z-of_z f) f c.if-z-lt0.false).0

pub overflow_cast-result-else-z-lt0-2 : goal.overflow_cast-result-else-z-lt0-2
overflow_cast-result-else-z-lt0-2 c = let p : 0 < c.args.m = omega arith in record { fits = omega (arith, mod-lt (nat_abs (to_z w64 (of_z w64 c.args.z))) p) }

pub returns-then-z-lt0 : goal.returns-then-z-lt0
returns-then-z-lt0 c = let s = c.before.before.before in remainder_negative _ _ _ (sym (to_z-of_z s.ranges.z) ∙ c.below.ensures.z_value) c.if-m-eq0.false

pub returns-else-z-lt0 : goal.returns-else-z-lt0
returns-else-z-lt0 c = let f = c.ranges.z in remainder_natural _ _ _ (natural _ _ (to_z-of_z f) f c.if-z-lt0.false).1 c.if-m-eq0.false
