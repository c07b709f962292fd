-- What is right of the totals on the way stays so from turn to turn, and the work that is left falls.
use mathlib.Core.Path.{◌≡◌}
use Rattle.paths.specs.Lands.{Land}
use Rattle.engine.specs.Settling.{live, work, Goes}
use Rattle.engine.specs.Steps.{to_of, cost_of}
use Rattle.engine.specs.Turns.{Paved}
use Rattle.engine.proofs.turns.turns.Given as goal

abbrev pub invariant-loop-tree : goal.invariant-loop-tree
invariant-loop-tree l = record {
  tiles : l.tree.tiles ≡ l.fn.tree.tiles;
  goes : (G : Land) → Paved G l.fn.tree.tiles (to_of l.land.table l.land.map) (cost_of l.land.table l.land.map l.land.efforts.now) → Goes G l.land.budget l.fn.tree l.tree (live l.fn.tree) (live l.tree);
}

abbrev pub decreases-loop-tree : goal.decreases-loop-tree
decreases-loop-tree l = work l.tree
