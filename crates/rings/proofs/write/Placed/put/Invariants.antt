-- The figure is laid at the first k ranges.
use Rattle.runs.specs.Laid.{Laid}
use Rattle.rings.specs.Leaves.{figures}
use Rattle.rings.proofs.write.Placed.put.Given as goal

abbrev pub invariant-loop-k : goal.invariant-loop-k
invariant-loop-k l = Laid l.fn.run l.at (figures l.self.figure l.self.centre l.first l.k) l.next l.run
