-- `from_width` meets its contract: an even gap's half gives the tile that is judged, and a pair with an odd gap has no tile.
use mathlib.Core.Path.{◌≡◌, refl, sym, ap, ap₂, ◌∙◌}
use Prim.Native.Nat.{◌<◌, ◌^◌}
use lib.IntN.{ℤ, ◌-ℤ◌}
use lib.Signed.{mag}
use mir.Syntax.{w32, w64}
use mir.Val.{SFits, to_z, of_z}
use mir.Facts.{to_z-of_z}
use borrow.Author.Rules.{rules}
use Rattle.whole.specs.Euclid.{quotient, remainder}
use Rattle.whole.proofs.Machine.{read, read_wide}
use Rattle.hexes.specs.Tiles.{tile}
use Rattle.conversions.specs.Doubled.{doubled_of}
use Rattle.conversions.specs.Grid.{TheTile}
use Rattle.conversions.proofs.DoubledLaws.{odd_of, width_tile, width_none}
use Rattle.conversions.proofs.GridLaws.{judged_tells, from_known}
use Rattle.conversions.proofs.doubled.from_width.Goals as goal

-- The gap between the column and the row is read back.
gap_is : (column row gap : ℤ) → SFits w32 column → SFits w32 row → mag gap < 2 ^ 63 → gap ≡ to_z w32 (of_z w32 column) -ℤ to_z w32 (of_z w32 row) → to_z w64 (of_z w64 gap) ≡ column -ℤ row
gap_is column row gap f g small e = read w64 gap small ∙ e ∙ ap₂ ◌-ℤ◌ (to_z-of_z f) (to_z-of_z g)

pub returns-then-wrapped-ne0 : goal.returns-then-wrapped-ne0
returns-then-wrapped-ne0 c =
    let column : SFits w32 c.args.pair.column = search rules in
    let row : SFits w32 c.args.pair.row = search rules in
    let gap = gap_is _ _ _ column row c.difference-gap.type_inv c.difference-gap.ensures.value in
    let parity = c.wrapped.ensures ∙ ap (λ (z : ℤ). remainder z 2) gap in
    from_known refl (TheTile.none (width_none c.args.pair (odd_of _ (λ z. c.if-wrapped-ne0.true (parity ∙ z)))))

pub returns : goal.returns
returns c =
    let column : SFits w32 c.args.pair.column = search rules in
    let row : SFits w32 c.args.pair.row = search rules in
    let gap = gap_is _ _ _ column row c.difference-gap.type_inv c.difference-gap.ensures.value in
    let parity = c.wrapped.ensures ∙ ap (λ (z : ℤ). remainder z 2) gap in
    let x = read w64 c.half.result c.half.type_inv ∙ c.half.ensures ∙ ap (λ (z : ℤ). quotient z 2) gap in
    let same = ap₂ (λ (x y : ℤ). doubled_of 0 (tile x y)) x (read_wide row) ∙ width_tile c.args.pair (sym parity ∙ c.if-wrapped-ne0.false) in
    judged_tells _ _ _ _ c.try_from.result refl same c.try_from.ensures
