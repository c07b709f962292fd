-- `spiral` meets its contract: it lists the figure of a ring.
use Rattle.runs.proofs.Ending.{lists_same}
use Rattle.rings.specs.Judged.{refusal_of}
use Rattle.rings.specs.Rings.{ring}
use Rattle.rings.specs.declared.figure.Shape.{Shape}
use Rattle.rings.proofs.Judging.{fine}
use Rattle.rings.proofs.Shapes.{shaped, figures_are, ring_is}
use Rattle.rings.proofs.spiral.Goals as goal

pub returns : goal.returns
returns c =
    let a = c.args in
    lists_same (refusal_of a.centre a.first a.last a.direction.0 a.sense) _ _ (λ z. figures_are (shaped Shape.Ring a.direction.0 a.sense) a.centre (ring a.centre a.direction.0 a.sense) (λ n. ring_is a.centre a.direction.0 a.sense n (fine _ _ _ _ _ z).fine_sense) a.first a.last) c.listed.ensures
