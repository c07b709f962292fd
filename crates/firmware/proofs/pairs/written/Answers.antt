-- `written` meets its contract: what was laid is told.
use mathlib.Core.Path.{◌∙◌}
use mir.Syntax.{w64}
use Rattle.whole.proofs.Machine.{read}
use Rattle.firmware.proofs.Answering.{told_list}
use Rattle.firmware.proofs.pairs.written.Goals as goal

pub returns : goal.returns
returns c = told_list _ _ _ _ c.laid.result _ (read w64 c.answer_told.result c.answer_told.type_inv ∙ c.answer_told.ensures) c.laid.ensures
