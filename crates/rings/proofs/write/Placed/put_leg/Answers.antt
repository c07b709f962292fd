-- `put_leg` meets its contract: from the corner that the range leads to, the leg's tiles are laid.
use native.Mathlib.Omega.{arith}
use Rattle.rings.specs.Leaves.{centre_reach}
use Rattle.rings.specs.Rings.{along}
use Rattle.rings.proofs.Reach.{near_along, near_more}
use Rattle.rings.proofs.write.Placed.put_leg.Goals as goal

-- The corner is one range further out than the centre.
pub put_tiles-requires-clause-near : goal.put_tiles-requires-clause-near
put_tiles-requires-clause-near c =
    let a = c.args in
    rw c.moved-corner.ensures (near_more (along a.self.centre a.leg.out a.range) (omega (arith, c.requires.range_le_range_limit)) (near_along a.self.centre a.leg.out a.range centre_reach a.self.near))
