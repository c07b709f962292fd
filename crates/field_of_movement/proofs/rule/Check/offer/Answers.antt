-- `offer` meets its contract: where there is no such tile, its number lies past every table.
use native.Mathlib.Omega.{arith}
use borrow.Author.Tests.{le-ltb}
use lib.ListN.{length}
use Rattle.storage.specs.Leaves.{no_index}
use Rattle.storage.proofs.Maps.{fine, area_small}
use Rattle.field_of_movement.proofs.rule.Check.offer.Goals as goal

pub returns-in_default : goal.returns-in_default
returns-in_default c =
    let s = c.args.self.now in
    rw (c.in_default.is, le-ltb no_index (length s.totals.now) (omega (arith, s.totals_len, area_small s.map.radius (fine s.map s.fine).small)))
