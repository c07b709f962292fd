-- `area` meets its contract: the area of the radius for a map that is fine, else 0.
use mathlib.Core.Path.{sym, ◌∙◌}
use native.Mathlib.Omega.{arith}
use Rattle.hexes.proofs.Tells.{refusal_number}
use Rattle.storage.proofs.Maps.{judged_fine, tiles_refused, tiles_fine}
use Rattle.storage.proofs.area.Goals as goal

pub returns-in-Ok : goal.returns-in-Ok
returns-in-Ok c = rw (← c.in-Ok.ensures) (c.area.ensures ∙ sym (tiles_fine _ (judged_fine c.in-Ok.fine)))

pub returns-in-Err : goal.returns-in-Err
returns-in-Err c = tiles_refused _ (λ z. omega (arith, refusal_number c.in-Err.field-0))
