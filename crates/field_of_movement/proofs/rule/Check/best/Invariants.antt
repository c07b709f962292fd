-- `best` is the best offer by the directions below d.
use Rattle.std.proofs.Common.{◌≡◌}
use Rattle.paths.specs.NeighborRule.{best}
use Rattle.paths.specs.Tables.{at}
use Rattle.hexes.specs.Limits.{no_way}
use Rattle.terrain.specs.LandOfMap.{land_of}
use Rattle.field_of_movement.proofs.rule.Check.best.Given as goal

abbrev pub invariant-loop-d : goal.invariant-loop-d
invariant-loop-d l = l.best ≡ best (land_of l.self.map l.self.efforts.now no_way) (at l.self.totals.now) l.i l.d
