-- Before each turn no direction that was passed makes up the rank.
use mathlib.Core.Path.{◌≡◌}
use Prim.Native.Nat.{ℕ, ◌<◌}
use lib.ListN.{get_or}
use Rattle.std.specs.Prelude.{None}
use Rattle.storage.specs.Leaves.{number_or_none}
use Rattle.pathfinding.specs.Ways.{offer_of}
use Rattle.pathfinding.proofs.way.Way.next.Given as goal

abbrev pub invariant-loop-d : goal.invariant-loop-d
invariant-loop-d l = (k : ℕ) → k < l.d → offer_of l.self.efforts.now l.self.ranks.now (number_or_none (get_or l.beside k None)) ≡ l.rank → ⊥
