-- `riding_range` meets its contract: the call is refused, or the engine fills the table.
use native.Mathlib.Omega.{arith}
use Rattle.field_of_movement.proofs.Calling.{ranges_accepted}
use Rattle.field_of_movement.proofs.riding_range.Goals as goal

-- The efforts are unsigned 16-bit numbers.
pub returns : goal.returns
returns c =
    let a = c.args in
    ranges_accepted a.map a.efforts.now a.start a.budget a.totals.now _ c.in_ok-index.ensures (λ i. omega (arith, c.type_inv.efforts i)) _ c.fill_totals.ensures
