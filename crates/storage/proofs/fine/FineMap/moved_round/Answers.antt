-- `moved_round` meets its contract: the sum lies at most one turn below 0 or above the area, and the turn is taken back.
use mathlib.Core.Path.{sym}
use native.Mathlib.Omega.{arith}
use lib.IntN.{pos, negsuc}
use Rattle.std.proofs.lemmas.Int.{ints}
use Rattle.whole.proofs.Euclid.{euclid_only}
use Rattle.storage.specs.Maps.{area_of}
use Rattle.storage.proofs.Maps.{area_small}
use Rattle.storage.proofs.fine.FineMap.moved_round.Goals as goal

pub returns-then-sum-lt0 : goal.returns-then-sum-lt0
returns-then-sum-lt0 c =
    let small = area_small c.args.self.map.radius c.args.self.small in
    sym (euclid_only _ (area_of c.args.self.map.radius) (negsuc 0) _ (grind (arith, ints)) (grind (arith, ints))).1

pub returns-then-sum-area : goal.returns-then-sum-area
returns-then-sum-area c =
    let small = area_small c.args.self.map.radius c.args.self.small in
    sym (euclid_only _ (area_of c.args.self.map.radius) (pos 1) _ (omega (arith, ints)) (grind (arith, ints))).1

pub returns : goal.returns
returns c =
    let small = area_small c.args.self.map.radius c.args.self.small in
    sym (euclid_only _ (area_of c.args.self.map.radius) (pos 0) _ (omega (arith, ints)) (grind (arith, ints))).1
