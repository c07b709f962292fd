-- `next` meets its contract: one step from a tile of a map stays within 32 bits.
use mathlib.Core.Path.{ap, ap₂}
use native.Mathlib.Omega.{arith}
use Rattle.std.proofs.lemmas.Int.{ints}
use Rattle.hexes.specs.Tiles.{tile}
use Rattle.hexes.specs.declared.Place.{Place}
use Rattle.storage.proofs.Besides.{next_near}
use Rattle.storage.proofs.map_tile.MapTile.next.Goals as goal

pub overflow_cast-result : goal.overflow_cast-result
overflow_cast-result c =
    let near = next_near c.args.self c.args.direction.0 in
    let x = ap (λ (p : Place). p.x) c.neighbor-at.ensures in
    omega (arith, ints)

pub overflow_cast-result-2 : goal.overflow_cast-result-2
overflow_cast-result-2 c =
    let near = next_near c.args.self c.args.direction.0 in
    let y = ap (λ (p : Place). p.y) c.neighbor-at.ensures in
    omega (arith, ints)

pub returns : goal.returns
returns c =
    let near = next_near c.args.self c.args.direction.0 in
    let x = ap (λ (p : Place). p.x) c.neighbor-at.ensures in
    let y = ap (λ (p : Place). p.y) c.neighbor-at.ensures in
    ap₂ tile (omega (arith, ints)) (omega (arith, ints))
