-- `put_at` meets its contract: at the loop's head the first i legs are laid.
use mathlib.Core.Path.{ap}
use Prim.Native.Nat.{◌<◌}
use native.Mathlib.Omega.{arith}
use Rattle.runs.proofs.Laying.{laid_as, laid_none, laid_room, laid_turn}
use Rattle.rings.specs.Leaves.{legs_of, leg_tiles}
use Rattle.rings.proofs.Figures.{leg_fits}
use Rattle.rings.proofs.write.Placed.put_at.Invariants.{leg_of}
use Rattle.rings.proofs.write.Placed.put_at.Goals as goal

pub loop-i-init : goal.loop-i-init
loop-i-init c =
    let a = c.args in
    laid_none (leg_of a.self.centre a.range a.self.figure) (legs_of a.self.figure.shape) a.run.now a.at

pub put_leg-next-requires-clause-leg_fits : goal.put_leg-next-requires-clause-leg_fits
put_leg-next-requires-clause-leg_fits c =
    let a = c.args in
    let f = a.self.figure in
    let within : c.loop-i.i < legs_of f.shape = omega (arith, c.loop-i-test.true, c.legs-i-end.ensures) in
    rw c.leg_at-leg.ensures (leg_fits f.shape f.direction f.sense a.range c.loop-i.i a.self.fits.fits_direction a.self.fits.fits_sense c.requires.range_le_range_limit within)

pub put_leg-next-requires-clause-leg_in_bounds : goal.put_leg-next-requires-clause-leg_in_bounds
put_leg-next-requires-clause-leg_in_bounds c =
    let a = c.args in
    let l = c.loop-i in
    let within : l.i < legs_of a.self.figure.shape = omega (arith, c.loop-i-test.true, c.legs-i-end.ensures) in
    rw c.leg_at-leg.ensures (laid_room (leg_of a.self.centre a.range a.self.figure) (legs_of a.self.figure.shape) a.run.now a.at l.i within c.requires.range_in_bounds l.auto.run l.invariant)

pub loop-i-preserved : goal.loop-i-preserved
loop-i-preserved c =
    let a = c.args in
    let l = c.loop-i in
    let within : l.i < legs_of a.self.figure.shape = omega (arith, c.loop-i-test.true, c.legs-i-end.ensures) in
    let new = laid_as (ap (leg_tiles a.self.centre a.range) c.leg_at-leg.ensures) c.put_leg-next.ensures in
    laid_turn (leg_of a.self.centre a.range a.self.figure) (legs_of a.self.figure.shape) a.run.now a.at l.i within c.requires.range_in_bounds l.invariant new
