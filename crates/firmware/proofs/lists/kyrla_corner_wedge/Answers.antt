-- `kyrla_corner_wedge` meets its contract: the corner wedge is asked for, and its answer told.
use mathlib.Core.Path.{◌∙◌}
use mir.Syntax.{w64}
use Rattle.whole.proofs.Machine.{read}
use Rattle.hexes.specs.declared.Tile.{Tile}
use Rattle.rings.specs.Judged.{refusal_of}
use Rattle.rings.specs.Rings.{corner_wedge}
use Rattle.firmware.proofs.Answering.{list_call}
use Rattle.firmware.proofs.Calling.{read_tile}
use Rattle.firmware.proofs.lists.kyrla_corner_wedge.Goals as goal

pub returns : goal.returns
returns c =
    let a = c.args in
    let centre = read_tile c.ranges.cx c.ranges.cy in
    let answer = read w64 c.answer_told.result c.answer_told.type_inv ∙ c.answer_told.ensures in
    list_call (λ (t : Tile). refusal_of t a.first a.last a.direction 0) (λ (t : Tile). corner_wedge t a.first a.last a.direction) centre a.run.now _ _ _ answer c.corner_wedge.ensures
