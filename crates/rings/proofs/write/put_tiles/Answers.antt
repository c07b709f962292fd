-- `put_tiles` meets its contract: at the loop's head the first k tiles are laid.
use mathlib.Core.List.{List, [], ◌∷◌}
use Prim.Native.Nat.{ℕ, ◌+◌}
use Rattle.hexes.specs.declared.Tile.{Tile}
use Rattle.runs.proofs.Laying.{laid_put, laid_none, laid_room, laid_turn}
use Rattle.rings.specs.Rings.{along}
use Rattle.rings.proofs.write.put_tiles.Goals as goal

abbrev one : Tile → ℕ → ℕ → ℕ → List Tile
one from direction skip k = along from direction (skip + k) ∷ []

pub loop-k-init : goal.loop-k-init
loop-k-init c =
    let a = c.args in
    laid_none (one a.from a.direction a.skip) a.count a.run.now a.at

pub loop-k-preserved : goal.loop-k-preserved
loop-k-preserved c =
    let a = c.args in
    let l = c.loop-k in
    let f = one a.from a.direction a.skip in
    let room = laid_room f a.count a.run.now a.at l.k c.loop-k-test.true c.requires.count_in_bounds l.auto.run l.invariant in
    let new = laid_put l.run l.next (along a.from a.direction (a.skip + l.k)) c.moved-tile.result room c.moved-tile.ensures c.put-next.ensures in
    laid_turn f a.count a.run.now a.at l.k c.loop-k-test.true c.requires.count_in_bounds l.invariant new
