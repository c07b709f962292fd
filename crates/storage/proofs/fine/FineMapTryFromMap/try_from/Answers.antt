-- `FineMap::try_from` meets its contract: past both tests the centre and the radius are within their limits.
use mathlib.Core.Path.{sym}
use native.Mathlib.Omega.{arith}
use Rattle.hexes.proofs.Limit.{within_is}
use Rattle.storage.proofs.fine.FineMapTryFromMap.try_from.Goals as goal

pub invariant_of-result : goal.invariant_of-result
invariant_of-result c =
    let near = within_is c.args.map.centre (sym c.if-not-within_limit.ensures) in
    record { near_x = near.0; near_y = near.1; small = omega arith }
