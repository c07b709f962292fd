-- `check_totals` meets its contract: the call is refused, or a broken index is found, or none.
use mathlib.Core.Path.{refl}
use native.Mathlib.Omega.{arith}
use lib.ListN.{length}
use Rattle.storage.proofs.Maps.{fine, area_small}
use Rattle.terrain.proofs.Judging.{Judged}
use Rattle.field_of_movement.proofs.Calling.{known, checks_broken, checks_right}
use Rattle.field_of_movement.proofs.check_totals.Goals as goal
use Rattle.field_of_movement.proofs.check_totals.Goals.{In_ok-index}

-- What is known of a call that is accepted.
accepted : (c : In_ok-index) → let a = c.args in Judged a.map a.start (length a.efforts.now) (length a.totals.now)
accepted c = let a = c.args in known a.map a.efforts.now a.start a.budget a.totals.now _ c.in_ok-index.ensures

pub invariant_of-check : goal.invariant_of-check
invariant_of-check c =
    let k = accepted (goal.at.invariant_of-check c).In_ok-index in
    record { fine = k.map_fine; efforts_len = k.efforts_length; totals_len = k.table_length }

pub overflow_cast-result : goal.overflow_cast-result
overflow_cast-result c =
    let k = accepted (goal.at.overflow_cast-result c).In_ok-index in
    record { fits = omega (arith, c.in-Some.ensures.found, k.table_length, area_small _ (fine _ k.map_fine).small) }

-- The table and the budget are unsigned 32-bit numbers.
pub returns-in-Some : goal.returns-in-Some
returns-in-Some c =
    let a = c.args in
    checks_broken a.map a.efforts.now a.start a.budget a.totals.now _ c.in_ok-index.ensures (omega (arith, c.ranges.budget)) (λ t. omega (arith, c.type_inv.totals t)) _ c.in-Some.ensures.scans c.in-Some.ensures.found _ refl

pub returns-in-None : goal.returns-in-None
returns-in-None c =
    let a = c.args in
    checks_right a.map a.efforts.now a.start a.budget a.totals.now _ c.in_ok-index.ensures (omega (arith, c.ranges.budget)) (λ t. omega (arith, c.type_inv.totals t)) _ (rw c.in-None.is at c.lowest_broken.ensures.scans) (omega arith)
