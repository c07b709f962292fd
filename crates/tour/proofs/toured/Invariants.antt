-- No more are counted than were gone through.
use Prim.Native.Nat.{◌≤◌}
use Rattle.tour.proofs.toured.Given as goal

abbrev pub invariant-loop-i : goal.invariant-loop-i
invariant-loop-i l = (l.tour.indices ≤ l.i) × (l.tour.lost ≤ l.i)
