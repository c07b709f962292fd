-- `kyrla_distance` meets its contract: the distance of two tiles of signed 32-bit coordinates fits 64 bits.
use mathlib.Core.Path.{◌≡◌, refl, ap, ap₂, ◌∙◌}
use Prim.Native.Nat.{◌≤◌, ◌^◌}
use native.Mathlib.Omega.{arith}
use lib.IntN.{ℤ, pos, nat_abs, ◌+ℤ◌, ◌-ℤ◌}
use mir.Syntax.{w32, w64}
use mir.Val.{SFits}
use mir.Facts.{to_z_pos}
use Rattle.whole.proofs.Differences.{by2}
use Rattle.whole.proofs.Kit.{dif_b}
use Rattle.whole.proofs.Machine.{wide_difference}
use Rattle.hexes.specs.Tiles.{tile, span, distance_of}
use Rattle.hexes.specs.declared.Tile.{Tile}
use Rattle.firmware.proofs.Calling.{read_tile}
use Rattle.firmware.proofs.numbers.kyrla_distance.Goals as goal
use Rattle.firmware.proofs.numbers.kyrla_distance.Goals.{After-distance}

sum_small : (x y : ℤ) → nat_abs x ≤ 2 ^ 32 → nat_abs y ≤ 2 ^ 32 → nat_abs (x +ℤ y) ≤ 2 ^ 33
sum_small = by2 _ (simp dif_b (omega arith))

distance_small : (a b : Tile) → SFits w32 a.x → SFits w32 a.y → SFits w32 b.x → SFits w32 b.y → distance_of a b ≤ 2 ^ 33
unfolding distance_of span
distance_small a b ax ay bx by =
    let dx = (wide_difference b.x a.x b.x a.x refl refl bx ax).1 in
    let dy = (wide_difference b.y a.y b.y a.y refl refl by ay).1 in
    let both = sum_small (b.x -ℤ a.x) (b.y -ℤ a.y) dx dy in
    omega (arith, dx, dy, both)

-- What was asked for is the distance of the two tiles, whose coordinates are read back.
as_asked : (c : After-distance) → c.distance.result ≡ distance_of (tile c.args.ax c.args.ay) (tile c.args.bx c.args.by)
as_asked c =
    let f = c.ranges in
    c.distance.ensures ∙ ap₂ distance_of (read_tile f.ax f.ay) (read_tile f.bx f.by)

pub overflow_cast-result : goal.overflow_cast-result
overflow_cast-result c =
    let a = c.args in
    let f = c.ranges in
    record { sfits = omega (arith, as_asked c, distance_small (tile a.ax a.ay) (tile a.bx a.by) f.ax f.ay f.bx f.by) }

pub returns : goal.returns
returns c = to_z_pos w64 (overflow_cast-result c).sfits ∙ ap pos (as_asked c)
