-- `fit` meets its contract: past both tests it is known that all fits.
use mathlib.Core.Path.{sym, ◌∙◌}
use native.Mathlib.Omega.{arith}
use Rattle.engine.proofs.Fillings.{known_fits}
use Rattle.engine.proofs.filling.fit.Goals as goal

pub returns-then-start-area-clause-known : goal.returns-then-start-area-clause-known
returns-then-start-area-clause-known c = λ t. known_fits _ _ _ _ (omega (arith, c.area.ensures)) (sym c.lengths_fit.ensures ∙ t)
