-- `row_column` meets its contract: of a tile of the map neither row nor column is negative, so both are the natural numbers that the definition takes.
use mathlib.Core.Path.{◌≡◌, ap, ap₂, ◌∙◌}
use Prim.Native.Nat.{ℕ, ◌-◌}
use native.Mathlib.Omega.{arith}
use lib.IntN.{pos, ◌+ℤ◌, ◌-ℤ◌}
use mir.Syntax.{w32}
use mir.Val.{SFits}
use borrow.Author.Rules.{rules}
use Rattle.std.proofs.lemmas.Int.{ints}
use Rattle.storage.specs.Hexagonal.{natural, row_in, column_in, row_column}
use Rattle.storage.proofs.Maps.{disc_of}
use Rattle.storage.proofs.map_tile.MapTile.row_column.Goals as goal

pub from_rim-row-requires-clause-c_bound : goal.from_rim-row-requires-clause-c_bound
from_rim-row-requires-clause-c_bound c =
    let s = c.args.self in
    let disc = disc_of s.fine.map s.tile s.of in
    let y : SFits w32 s.tile.y = search rules in
    omega (arith, ints)

pub from_rim-far-requires-clause-c_bound : goal.from_rim-far-requires-clause-c_bound
from_rim-far-requires-clause-c_bound c =
    let s = c.args.self in
    let disc = disc_of s.fine.map s.tile s.of in
    let x : SFits w32 s.tile.x = search rules in
    omega (arith, ints)

pub overflow_sub-result : goal.overflow_sub-result
overflow_sub-result c =
    let s = c.args.self in
    let disc = disc_of s.fine.map s.tile s.of in
    let x : SFits w32 s.tile.x = search rules in
    let y : SFits w32 s.tile.y = search rules in
    omega (arith, ints)

pub returns : goal.returns
unfolding row_in column_in
returns c =
    let s = c.args.self in
    let map = s.fine.map in
    let disc = disc_of map s.tile s.of in
    let x : SFits w32 s.tile.x = search rules in
    let y : SFits w32 s.tile.y = search rules in
    let row : pos c.from_rim-row.result ≡ (s.tile.y -ℤ map.centre.y) +ℤ pos map.radius = omega (arith, ints) in
    let column : pos (c.from_rim-far.result - c.lacking.result) ≡ ((s.tile.x -ℤ map.centre.x) +ℤ pos map.radius) -ℤ pos (map.radius - c.from_rim-row.result) = omega (arith, ints) in
    ap₂ row_column (ap natural row)
    (ap natural (column ∙ ap (λ (n : ℕ). ((s.tile.x -ℤ map.centre.x) +ℤ pos map.radius) -ℤ pos (map.radius - n)) (ap natural row)))
