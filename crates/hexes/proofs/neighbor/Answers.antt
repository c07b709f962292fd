-- `neighbor` meets its contract: each coordinate and its part of the step are summed exactly.
use mir.Syntax.{w32, w64}
use mir.Val.{SFits}
use mir.Facts.{to_z-of_z}
use borrow.Author.Rules.{rules}
use Rattle.whole.proofs.Machine.{read}
use Rattle.hexes.specs.Tiles.{neighbor_of}
use Rattle.hexes.proofs.neighbor.Goals as goal

pub returns : goal.returns
unfolding neighbor_of
returns c =
    let tx : SFits w32 c.args.tile.x = search rules in
    let ty : SFits w32 c.args.tile.y = search rules in
    let step = c.step_of-step in
    let sx : SFits w32 step.result.0 = search rules in
    let sy : SFits w32 step.result.1 = search rules in
    cc (to_z-of_z tx, to_z-of_z sx, to_z-of_z ty, to_z-of_z sy, read w64 c.sum.result c.sum.type_inv, read w64 c.sum-2.result c.sum-2.type_inv)
