-- The steps by the directions below the index have been looked at.
use Rattle.engine.specs.Settling.{Kept, LookedAround}
use Rattle.engine.proofs.settling.look_around.Given as goal

abbrev pub invariant-loop-to : goal.invariant-loop-to
invariant-loop-to l = record {
  kept : Kept l.base l.fn.tree l.tree;
  looked : LookedAround l.base l.budget l.fn.steps l.to-index l.fn.tree l.tree;
}
