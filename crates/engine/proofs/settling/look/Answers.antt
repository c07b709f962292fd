-- `look` meets its contract: where a test fails, the step lowers nothing, and where all four hold, the tile is lowered.
use native.Mathlib.Omega.{arith}
use Rattle.engine.proofs.Looking.{looked_same, lowered}
use Rattle.engine.proofs.settling.look.Goals as goal

pub returns-then-x-total : goal.returns-then-x-total
returns-then-x-total c =
    let x = c.args in
    let both = lowered x.base x.budget c.in-Some.index.0 x.w x.tree.now c.requires.budget_le_largest_total (omega arith) (omega arith) (omega arith) (omega (arith, c.if-x-total.true, c.total.ensures)) c.lower.new.self c.lower.ensures in
    record { kept = both.0; looked = rw c.in-Some.is both.1 }

pub returns-else-t-tree-clause-looked : goal.returns-else-t-tree-clause-looked
returns-else-t-tree-clause-looked c = rw c.in-Some.is (grind (arith, looked_same))
