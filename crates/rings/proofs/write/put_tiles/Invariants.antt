-- The first k tiles are laid.
use Rattle.runs.specs.Laid.{Laid}
use Rattle.rings.specs.Leaves.{tiles_from}
use Rattle.rings.proofs.write.put_tiles.Given as goal

abbrev pub invariant-loop-k : goal.invariant-loop-k
invariant-loop-k l = Laid l.fn.run l.at (tiles_from l.from l.direction l.skip l.k) l.next l.run
