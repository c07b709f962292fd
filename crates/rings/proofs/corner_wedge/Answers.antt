-- `corner_wedge` meets its contract: it lists the figure of a corner.
use Rattle.runs.proofs.Ending.{lists_same}
use Rattle.rings.specs.Judged.{refusal_of}
use Rattle.rings.specs.Rings.{corner_edge}
use Rattle.rings.specs.declared.figure.Shape.{Shape}
use Rattle.rings.proofs.Shapes.{shaped, figures_are, corner_is}
use Rattle.rings.proofs.corner_wedge.Goals as goal

pub returns : goal.returns
returns c =
    let a = c.args in
    lists_same (refusal_of a.centre a.first a.last a.direction.0 0) _ _ (λ z. figures_are (shaped Shape.Corner a.direction.0 0) a.centre (corner_edge a.centre a.direction.0) (λ n. corner_is a.centre a.direction.0 0 n) a.first a.last) c.listed.ensures
