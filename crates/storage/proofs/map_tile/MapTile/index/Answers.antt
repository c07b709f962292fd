-- `index` meets its contract: differences of 32 bits, 182 times, fit 64 bits, and the remainder is that of the definition.
use mathlib.Core.Path.{◌≡◌, ap, ap₂, ◌∙◌}
use Prim.Native.Nat.{◌^◌}
use native.Mathlib.Omega.{arith}
use lib.IntN.{ℤ, ◌-ℤ◌}
use mir.Syntax.{w32, w64}
use mir.Val.{SFits, to_z, of_z}
use mir.Facts.{to_z-of_z}
use borrow.Author.Rules.{rules}
use Rattle.whole.specs.Euclid.{remainder}
use Rattle.storage.specs.Hexmod.{index, index_in}
use Rattle.storage.proofs.Reckoned.{product_fits, sum_fits, parts}
use Rattle.storage.proofs.map_tile.MapTile.index.Goals as goal

pub overflow_mul-along : goal.overflow_mul-along
overflow_mul-along c =
    let x = c.difference-dx in
    let y = c.difference-dy in
    product_fits w64 c.shift.result (2 ^ 32) x.result y.result (omega arith) (omega arith) x.ensures.result_bound y.ensures.result_bound

pub overflow_add-along : goal.overflow_add-along
overflow_add-along c =
    let x = c.difference-dx in
    let y = c.difference-dy in
    sum_fits w64 c.shift.result (2 ^ 32) x.result y.result (omega arith) (omega arith) x.ensures.result_bound y.ensures.result_bound

read : {a b : ℤ} → SFits w32 a → SFits w32 b → to_z w32 (of_z w32 a) -ℤ to_z w32 (of_z w32 b) ≡ a -ℤ b
read f g = ap₂ ◌-ℤ◌ (to_z-of_z f) (to_z-of_z g)

pub returns : goal.returns
unfolding index_in
returns c =
    let s = c.args.self in
    let x = c.difference-dx in
    let y = c.difference-dy in
    let k = c.shift in
    let tx : SFits w32 s.tile.x = search rules in
    let ty : SFits w32 s.tile.y = search rules in
    let cx : SFits w32 s.fine.map.centre.x = search rules in
    let cy : SFits w32 s.fine.map.centre.y = search rules in
    let dx = x.ensures.value ∙ read tx cx in
    let dy = y.ensures.value ∙ read ty cy in
    let fits = sum_fits w64 k.result (2 ^ 32) x.result y.result (omega arith) (omega arith) x.ensures.result_bound y.ensures.result_bound in
    let sum = parts w64 k.result (2 ^ 32) x.result y.result (omega arith) (omega arith) x.ensures.result_bound y.ensures.result_bound in
    ap index
    (c.wrapped.ensures
    ∙ ap₂ remainder (to_z-of_z fits ∙ sum ∙ rw (k.ensures, dx, dy)) c.area.ensures)
