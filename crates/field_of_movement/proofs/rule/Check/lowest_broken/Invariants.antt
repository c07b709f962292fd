-- The rule holds at the tiles before the next one.
use Rattle.std.proofs.Common.{◌≡◌, ℕ, ◌<◌}
use Rattle.paths.specs.NeighborRule.{want}
use Rattle.paths.specs.Tables.{at}
use Rattle.hexes.specs.Limits.{no_way}
use Rattle.terrain.specs.LandOfMap.{land_of}
use Rattle.field_of_movement.proofs.rule.Check.lowest_broken.Given as goal

abbrev pub invariant-loop-i : goal.invariant-loop-i
invariant-loop-i l = (k : ℕ) → k < l.i → at l.self.totals.now k ≡ want (land_of l.self.map l.self.efforts.now no_way) (at l.self.totals.now) l.self.start l.self.budget k
