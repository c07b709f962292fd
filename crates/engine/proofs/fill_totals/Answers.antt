-- `fill_totals` meets its contract: the totals that are told to a table that fits are right.
use mathlib.Core.Path.{refl, sym, ◌∙◌}
use native.Mathlib.Omega.{arith}
use Rattle.engine.proofs.Fillings.{filled, filled_right}
use Rattle.engine.proofs.fill_totals.Goals as goal

pub returns-then-fit : goal.returns-then-fit
returns-then-fit c =
    let k = c.if-fit.ensures.known refl in
    filled c.if-fit.ensures.value (c.fill.ensures.written.size ∙ k.efforts_length ∙ sym k.table_length)
    (filled_right _ _ _ _ _ (record { fine = k.map_fine; size = k.efforts_length }) (λ i. omega (arith, c.type_inv.efforts i)) k.on c.fill.ensures)
