-- On the way up each node is right but the parent of k, and where the loop ends, that one is right too.
use mathlib.Core.Path.{◌≡◌}
use Prim.Native.Nat.{ℕ, ◌*◌, ◌<◌, ◌≤◌}
use lib.ListN.{length, get_or}
use Rattle.engine.specs.Leaves.{indices}
use Rattle.engine.specs.Trees.{leaf}
use Rattle.engine.proofs.Nodes.{But}
use Rattle.engine.proofs.trees.set_leaf.Given as goal

abbrev pub invariant-loop-k : goal.invariant-loop-k
invariant-loop-k l = record {
  low : 1 ≤ l.k;
  high : l.k < 2 * l.a;
  few : l.a ≤ indices;
  room : 2 * l.a ≤ length l.nodes;
  nodes : But l.a l.nodes l.k;
  leaves : (j : ℕ) → leaf l.a l.nodes j ≡ leaf l.a l.initial.nodes j;
  winner_is : get_or l.nodes l.k 0 ≡ l.winner;
}

abbrev pub decreases-loop-k : goal.decreases-loop-k
decreases-loop-k l = l.k
