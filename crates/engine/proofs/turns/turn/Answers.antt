-- `turn` meets its contract: the root is the leaf of an open tile, and that tile is closed.
use native.Mathlib.Omega.{arith}
use Rattle.engine.specs.Steps.{to_of, cost_of}
use Rattle.engine.proofs.Heaps.{root_open, Open}
use Rattle.engine.proofs.Closing.{turned}
use Rattle.engine.proofs.turns.turn.Goals as goal
use Rattle.engine.proofs.turns.turn.Goals.{After-total_of-base}

-- The tile at the root.
top : (c : After-total_of-base) → Open c.args.tree.now c.index_of-u.result c.total_of-base.result
top c = root_open c.args.tree.now _ _ (omega (arith, c.requires.tree_bound)) (rw c.root-top.ensures at c.index_of-u.ensures) (rw c.root-top.ensures at c.total_of-base.ensures)

pub steps_out-requires : goal.steps_out-requires
steps_out-requires c = omega (arith, c.requires.tiles, (top (goal.at.steps_out-requires c).After-total_of-base).on)

pub look_around-requires-clause-base_le_largest_total : goal.look_around-requires-clause-base_le_largest_total
look_around-requires-clause-base_le_largest_total c = (top (goal.at.look_around-requires-clause-base_le_largest_total c).After-total_of-base).small

pub close-requires-clause-on : goal.close-requires-clause-on
close-requires-clause-on c = omega (arith, c.look_around.ensures.kept.tiles, (top (goal.at.close-requires-clause-on c).After-total_of-base).on)

pub close-requires-clause-total_le_no_total : goal.close-requires-clause-total_le_no_total
close-requires-clause-total_le_no_total c = omega (arith, (top (goal.at.close-requires-clause-total_le_no_total c).After-total_of-base).small)

pub returns : goal.returns
returns c =
    let land = c.args.land.now in
    turned _ _ c.args.tree.now c.look_around.new.tree c.close.new.self (top (goal.at.returns c).After-total_of-base) c.look_around.ensures.kept c.close.ensures
    (to_of land.table land.map) (cost_of land.table land.map land.efforts.now) land.budget c.steps_out.result c.steps_out.ensures c.look_around.ensures.looked
