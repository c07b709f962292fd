-- Before each turn the tile has a rank, and what is written and what is left make up the way. With each turn the rank falls.
use mathlib.Core.List.{List}
use Prim.Native.Nat.{ℕ}
use lib.ListN.{get_or}
use Rattle.paths.specs.Tables.{at}
use Rattle.routes.specs.Descents.{Descent}
use Rattle.routes.specs.Ranks.{multiplier}
use Rattle.routes.specs.Turned.{turned}
use Rattle.terrain.specs.GroundOfMap.{ground_of}
use Rattle.pathfinding.specs.Ways.{Ranked}
use Rattle.pathfinding.proofs.Descent.{Left}
use Rattle.pathfinding.proofs.way.Way.put.Given as goal

abbrev pub invariant-loop-u : goal.invariant-loop-u
invariant-loop-u l =
    let s = l.self in
    Ranked s.map s.efforts.now s.ranks.now l.u
    × ((ds : List ℕ) → Descent (turned (ground_of s.map s.efforts.now) multiplier) (at s.ranks.now) s.end l.start ds → Left s.map s.efforts.now s.ranks.now s.end l.fn.run l.start ds l.u l.place l.run)

abbrev pub decreases-loop-u : goal.decreases-loop-u
decreases-loop-u l = get_or l.self.ranks.now l.u 0
