-- `put` meets its contract: at the loop's head the figure is laid at the first k ranges.
use mathlib.Core.List.{List}
use Prim.Native.Nat.{ℕ, ◌+◌}
use Rattle.hexes.specs.declared.Tile.{Tile}
use Rattle.runs.proofs.Laying.{laid_none, laid_room, laid_turn}
use Rattle.rings.specs.Leaves.{figure_at}
use Rattle.rings.specs.declared.figure.Figure.{Figure}
use Rattle.rings.proofs.write.Placed.put.Goals as goal

abbrev at_range : Figure → Tile → ℕ → ℕ → List Tile
at_range figure centre first k = figure_at figure centre (first + k)

pub loop-k-init : goal.loop-k-init
loop-k-init c =
    let a = c.args in
    laid_none (at_range a.self.figure a.self.centre a.first) a.count a.run.now a.at

pub put_at-next-requires-clause-range_in_bounds : goal.put_at-next-requires-clause-range_in_bounds
put_at-next-requires-clause-range_in_bounds c =
    let a = c.args in
    let l = c.loop-k in
    laid_room (at_range a.self.figure a.self.centre a.first) a.count a.run.now a.at l.k c.loop-k-test.true c.requires.count_in_bounds l.auto.run l.invariant

pub loop-k-preserved : goal.loop-k-preserved
loop-k-preserved c =
    let a = c.args in
    let l = c.loop-k in
    laid_turn (at_range a.self.figure a.self.centre a.first) a.count a.run.now a.at l.k c.loop-k-test.true c.requires.count_in_bounds l.invariant c.put_at-next.ensures
