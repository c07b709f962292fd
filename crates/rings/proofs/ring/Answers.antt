-- `ring` meets its contract: a ring is the spiral of one range.
use Rattle.runs.proofs.Ending.{lists_same}
use Rattle.rings.specs.Judged.{refusal_of}
use Rattle.rings.specs.Rings.{ring}
use Rattle.rings.proofs.Shapes.{one_range}
use Rattle.rings.proofs.ring.Goals as goal

pub returns : goal.returns
returns c =
    let a = c.args in
    lists_same (refusal_of a.centre a.range a.range a.direction.0 a.sense) _ _ (λ z. one_range (ring a.centre a.direction.0 a.sense) a.range) c.spiral.ensures
