-- `kyrla_index` meets its contract: the index is asked for, and its answer told.
use mathlib.Core.Path.{◌∙◌}
use mir.Syntax.{w64}
use Rattle.whole.proofs.Machine.{read}
use Rattle.firmware.proofs.Answering.{index_call}
use Rattle.firmware.proofs.Calling.{read_map, read_tile}
use Rattle.firmware.proofs.numbers.kyrla_index.Goals as goal

pub returns : goal.returns
returns c =
    let made = c.map_at-map.ensures ∙ read_map c.args.radius c.ranges.cx c.ranges.cy in
    let asked = read_tile c.ranges.x c.ranges.y in
    read w64 c.answer_told.result c.answer_told.type_inv ∙ c.answer_told.ensures ∙ index_call made asked c.to_hexmod_coordinates-found.result c.map.result c.to_hexmod_coordinates-found.ensures c.map.ensures.cases
