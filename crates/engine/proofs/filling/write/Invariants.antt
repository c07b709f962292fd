-- Before each turn the entries of the tiles passed stand in the table.
use lib.ListN.{length}
use Rattle.engine.specs.Settling.{totals}
use Rattle.engine.specs.Writing.{Written}
use Rattle.engine.proofs.filling.write.Given as goal

abbrev pub invariant-loop-t : goal.invariant-loop-t
invariant-loop-t g l = Written (length l.fn.table) (λ t. g.E.Entry.of_total (totals l.tree t)) l.t l.table
