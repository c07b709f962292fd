-- `turns` meets its contract: each turn keeps what is right on the way, and the measure falls.
use mathlib.Core.Path.{sym, ◌∙◌}
use native.Mathlib.Omega.{arith}
use Rattle.engine.proofs.Closing.{going_done, paved_over}
use Rattle.engine.proofs.turns.turns.Goals as goal

pub loop-tree-preserved : goal.loop-tree-preserved
loop-tree-preserved c =
    let t = c.turn.ensures in
    let i = c.loop-tree.invariant in
    record { tiles = t.tiles ∙ i.tiles; goes = λ G paved s g. t.goes G (paved_over (sym i.tiles) paved) s (i.goes G paved s g) }

pub returns : goal.returns
returns c =
    let l = c.loop-tree in
    record { tiles = l.invariant.tiles; right = λ G s paved g. going_done G s c.args.land.now.budget l.tree (omega arith) (l.invariant.goes G paved s g) }
