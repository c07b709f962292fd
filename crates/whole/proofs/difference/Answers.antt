-- `difference` meets its contract: both numbers are widened first, and then the difference cannot pass 64 bits.
use mathlib.Core.Path.{ap}
use native.Mathlib.Omega.{arith}
use lib.IntN.{nat_abs}
use mir.Facts.{to_z-of_z}
use Rattle.whole.proofs.Machine.{read_wide, wide_difference}
use Rattle.whole.proofs.difference.Goals as goal

pub overflow_sub-result : goal.overflow_sub-result
overflow_sub-result c = (wide_difference _ _ _ _ (read_wide c.ranges.a) (read_wide c.ranges.b) c.ranges.a c.ranges.b).0

pub returns : goal.returns
returns c =
    let e = to_z-of_z (overflow_sub-result c) in
    let l = (wide_difference _ _ _ _ (read_wide c.ranges.a) (read_wide c.ranges.b) c.ranges.a c.ranges.b).1 in
    record { value = cc (e, read_wide c.ranges.a, read_wide c.ranges.b); result_bound = omega (arith, ap nat_abs e) }
