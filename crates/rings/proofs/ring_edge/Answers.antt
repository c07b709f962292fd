-- `ring_edge` meets its contract: an edge is the wedge of one range.
use Rattle.runs.proofs.Ending.{lists_same}
use Rattle.rings.specs.Judged.{refusal_of}
use Rattle.rings.specs.Rings.{edge}
use Rattle.rings.proofs.Shapes.{one_range}
use Rattle.rings.proofs.ring_edge.Goals as goal

pub returns : goal.returns
returns c =
    let a = c.args in
    lists_same (refusal_of a.centre a.range a.range a.vertex a.sense) _ _ (λ z. one_range (edge a.centre a.vertex a.sense) a.range) c.wedge.ensures
