-- `distance` meets its contract: differences and their sum are exact, and the code takes the largest of the three sizes as the definition does.
use Prim.Native.Nat.{◌≤◌, ◌^◌}
use native.Mathlib.Omega.{arith}
use mathlib.Core.Path.{◌≡◌}
use lib.IntN.{ℤ, nat_abs, ◌+ℤ◌}
use mir.Syntax.{w32, w64}
use mir.Val.{SFits}
use mir.Facts.{to_z-of_z}
use borrow.Author.Rules.{rules}
use Rattle.whole.proofs.Differences.{by4}
use Rattle.whole.proofs.Kit.{dif_b}
use Rattle.whole.proofs.Machine.{read}
use Rattle.hexes.specs.Tiles.{distance_of, span}
use Rattle.hexes.proofs.distance.Goals as goal

sum_fits : (x y x' y' : ℤ) → x' ≡ x → y' ≡ y → nat_abs x ≤ 2 ^ 32 → nat_abs y ≤ 2 ^ 32 → SFits w64 (x' +ℤ y')
sum_fits = by4 _ (simp dif_b (omega arith))

pub returns : goal.returns
unfolding distance_of span
returns c =
    let dx = c.difference-dx in
    let dy = c.difference-dy in
    let ax : SFits w32 c.args.a.x = search rules in
    let ay : SFits w32 c.args.a.y = search rules in
    let bx : SFits w32 c.args.b.x = search rules in
    let by : SFits w32 c.args.b.y = search rules in
    let x = read w64 dx.result dx.type_inv in
    let y = read w64 dy.result dy.type_inv in
    cc (to_z-of_z ax, to_z-of_z bx, to_z-of_z ay, to_z-of_z by, x, y, to_z-of_z (sum_fits _ _ _ _ x y dx.ensures.result_bound dy.ensures.result_bound))
