-- `judge` meets its contract: where the start has an index, the lengths decide.
use mathlib.Core.Path.{sym}
use Rattle.terrain.proofs.Judging.{judged_misfit, judged_fit}
use Rattle.terrain.proofs.judge.Goals as goal

pub returns-then-not-lengths_fit : goal.returns-then-not-lengths_fit
returns-then-not-lengths_fit c = judged_misfit _ _ _ _ _ c.in_ok-index.ensures (sym c.if-not-lengths_fit.ensures)

pub returns : goal.returns
returns c = judged_fit _ _ _ _ _ c.in_ok-index.ensures (sym c.if-not-lengths_fit.ensures)
