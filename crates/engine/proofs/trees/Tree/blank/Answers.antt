-- `blank` meets its contract: all nodes are alike, so each holds the smaller of its two, and no leaf is open.
use Rattle.engine.proofs.Heaps.{leaf_first, heap_first}
use Rattle.engine.proofs.trees.Tree.blank.Goals as goal

pub invariant_of-result : goal.invariant_of-result
invariant_of-result c = record { heap = heap_first _ c.requires.some c.requires.few }

pub returns-clause-blank : goal.returns-clause-blank
returns-clause-blank c = leaf_first _ c.requires.some c.requires.few
