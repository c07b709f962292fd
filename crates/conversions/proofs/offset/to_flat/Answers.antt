-- `to_flat` meets its contract: of a tile within the limit the row fits 32 bits.
use mathlib.Core.Path.{◌≡◌, ap, ◌∙◌}
use mathlib.Core.Bool.{true}
use Prim.Native.Nat.{ℕ}
use native.Mathlib.Omega.{arith}
use lib.IntN.{ℤ, ◌+ℤ◌}
use mir.Syntax.{w32}
use mir.Val.{SFits, to_z, of_z}
use mir.Facts.{to_z-of_z}
use borrow.Author.Rules.{rules}
use Rattle.hexes.specs.Tiles.{within_limit}
use Rattle.hexes.specs.declared.Tile.{Tile}
use Rattle.hexes.proofs.Limit.{within_is, within_read}
use Rattle.conversions.specs.Offset.{slant_of, offset_of}
use Rattle.conversions.proofs.OffsetLaws.{slant_small, row_fits}
use Rattle.conversions.proofs.offset.to_flat.Goals as goal

-- What is read of a tile within the limit and of the slant `by` that was found for its x.
module _ (t : Tile) (mode : ℕ) {by : ℤ} (near : within_limit t ≡ true) (f : SFits w32 by) (is : by ≡ slant_of mode (to_z w32 (of_z w32 t.x))) where
  by_is : to_z w32 (of_z w32 by) ≡ slant_of mode t.x
  by_is = to_z-of_z f ∙ is ∙ ap (slant_of mode) (within_read t near).0

  sum_fits : SFits w32 (to_z w32 (of_z w32 t.y) +ℤ to_z w32 (of_z w32 by))
  sum_fits =
      let l = within_is t near in
      rw ((within_read t near).1, by_is) (row_fits t.y (slant_of mode t.x) l.1 (omega (arith, slant_small mode t.x)))

pub overflow_add-result : goal.overflow_add-result
overflow_add-result c = sum_fits c.args.tile c.args.mode c.requires (search rules) c.in_ok-by.ensures.1

pub returns : goal.returns
unfolding offset_of
returns c =
    let t = c.args.tile in
    let is = c.in_ok-by.ensures in
    let f : SFits w32 c.in_ok-by.by = search rules in
    let r = within_read t c.requires in
    (is.0, rw (to_z-of_z (sum_fits t c.args.mode c.requires f is.1), by_is t c.args.mode c.requires f is.1, r.0, r.1))
