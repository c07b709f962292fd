-- `Tile::try_from` meets its contract: the two tests are those of the limit, and a number within it fits 32 bits.
use mathlib.Core.Path.{ap}
use Prim.Native.Nat.{◌<◌, ◌≤◌}
use native.Mathlib.Omega.{arith}
use lib.IntN.{nat_abs}
use mir.Syntax.{w64}
use mir.Val.{SFits}
use mir.Facts.{to_z-of_z}
use borrow.Author.Rules.{rules}
use Rattle.whole.proofs.Machine.{small_fits}
use Rattle.hexes.specs.Limits.{coordinate_limit}
use Rattle.hexes.specs.Tiles.{tile_at}
use Rattle.hexes.specs.Answers.{judged_tile}
use Rattle.hexes.proofs.Limit.{within, beyond_x, beyond_y}
use Rattle.hexes.proofs.TileTryFromPlace.try_from.Goals as goal

pub returns-then-absolute-gt-COORDINATE : goal.returns-then-absolute-gt-COORDINATE
unfolding judged_tile
returns-then-absolute-gt-COORDINATE c =
    let x : SFits w64 c.args.at.x = search rules in
    let far : coordinate_limit < nat_abs c.args.at.x = omega (arith, ap nat_abs (to_z-of_z x)) in
    rw (beyond_x (tile_at c.args.at) far)

pub returns-then-absolute-gt-COORDINATE-2 : goal.returns-then-absolute-gt-COORDINATE-2
unfolding judged_tile
returns-then-absolute-gt-COORDINATE-2 c =
    let y : SFits w64 c.args.at.y = search rules in
    let far : coordinate_limit < nat_abs c.args.at.y = omega (arith, ap nat_abs (to_z-of_z y)) in
    rw (beyond_y (tile_at c.args.at) far)

-- Past both tests, each coordinate is within the limit.
pub returns : goal.returns
unfolding judged_tile
returns c =
    let at = c.args.at in
    let x : SFits w64 at.x = search rules in
    let y : SFits w64 at.y = search rules in
    let near_x : nat_abs at.x ≤ coordinate_limit = omega (arith, ap nat_abs (to_z-of_z x)) in
    let near_y : nat_abs at.y ≤ coordinate_limit = omega (arith, ap nat_abs (to_z-of_z y)) in
    rw (to_z-of_z x, to_z-of_z y, to_z-of_z (small_fits at.x (omega arith)), to_z-of_z (small_fits at.y (omega arith)), within (tile_at at) near_x near_y)
