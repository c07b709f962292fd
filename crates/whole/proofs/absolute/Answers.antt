-- `absolute` meets its contract: below 0 the size is one more than what `below` answers.
use mathlib.Core.Path.{◌∙◌, ap, sym}
use native.Mathlib.Omega.{arith}
use lib.IntN.{nat_abs}
use mir.Facts.{to_z-of_z}
use Rattle.whole.proofs.Machine.{natural}
use Rattle.whole.proofs.absolute.Goals as goal

pub overflow_cast-result : goal.overflow_cast-result
overflow_cast-result c = let f = c.ranges.z in (natural _ _ (to_z-of_z f) f c.if-z-lt0.false).0

pub returns-then-z-lt0 : goal.returns-then-z-lt0
returns-then-z-lt0 c = omega (arith, ap nat_abs (sym (to_z-of_z c.ranges.z) ∙ c.below.ensures.z_value))
