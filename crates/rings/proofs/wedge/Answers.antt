-- `wedge` meets its contract: it lists the figure of an edge.
use Rattle.runs.proofs.Ending.{lists_same}
use Rattle.rings.specs.Judged.{refusal_of}
use Rattle.rings.specs.Rings.{edge}
use Rattle.rings.specs.declared.figure.Shape.{Shape}
use Rattle.rings.proofs.Judging.{fine}
use Rattle.rings.proofs.Shapes.{shaped, figures_are, edge_is}
use Rattle.rings.proofs.wedge.Goals as goal

pub returns : goal.returns
returns c =
    let a = c.args in
    lists_same (refusal_of a.centre a.first a.last a.vertex a.sense) _ _ (λ z. figures_are (shaped Shape.Edge a.vertex a.sense) a.centre (edge a.centre a.vertex a.sense) (λ n. edge_is a.centre a.vertex a.sense n (fine _ _ _ _ _ z).fine_sense) a.first a.last) c.listed.ensures
