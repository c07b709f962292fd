-- `moved` meets its contract, coordinate by coordinate.
use mathlib.Core.Path.{ap}
use mir.Syntax.{w32}
use mir.Val.{SFits}
use mir.Facts.{to_z-of_z}
use borrow.Author.Rules.{rules}
use Rattle.whole.proofs.Machine.{read}
use Rattle.hexes.specs.declared.Step.{Step}
use Rattle.hexes.proofs.Metric.{step_small}
use Rattle.rings.specs.Rings.{along}
use Rattle.rings.proofs.write.moved.Goals as goal

pub reached-requires-clause-s_bound : goal.reached-requires-clause-s_bound
reached-requires-clause-s_bound c =
    let s : SFits w32 c.step_of-step.result.0 = search rules in
    rw (to_z-of_z s, ap (λ (s : Step). s.0) c.step_of-step.ensures) (step_small c.args.direction).0

pub reached-requires-2-clause-s_bound : goal.reached-requires-2-clause-s_bound
reached-requires-2-clause-s_bound c =
    let s : SFits w32 c.step_of-step.result.1 = search rules in
    rw (to_z-of_z s, ap (λ (s : Step). s.1) c.step_of-step.ensures) (step_small c.args.direction).1

pub returns : goal.returns
unfolding along
returns c =
    let x : SFits w32 c.args.from.x = search rules in
    let y : SFits w32 c.args.from.y = search rules in
    let step = c.step_of-step in
    let sx : SFits w32 step.result.0 = search rules in
    let sy : SFits w32 step.result.1 = search rules in
    cc (to_z-of_z x, to_z-of_z y, to_z-of_z sx, to_z-of_z sy, read w32 c.reached.result c.reached.type_inv, read w32 c.reached-2.result c.reached-2.type_inv)
