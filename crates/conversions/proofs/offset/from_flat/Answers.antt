-- `from_flat` meets its contract: what the slant added is taken away, and the tile found so is judged.
use mathlib.Core.Path.{ap, ap₂, ◌∙◌}
use lib.IntN.{ℤ, ◌-ℤ◌}
use mir.Syntax.{w32, w64}
use mir.Val.{SFits}
use mir.Facts.{to_z-of_z}
use borrow.Author.Rules.{rules}
use Rattle.whole.proofs.Machine.{read, read_wide}
use Rattle.hexes.specs.Tiles.{tile}
use Rattle.conversions.specs.Offset.{slant_of, offset_of}
use Rattle.conversions.proofs.GridLaws.{judged_tells}
use Rattle.conversions.proofs.OffsetLaws.{flat_tile}
use Rattle.conversions.proofs.offset.from_flat.Goals as goal

pub returns : goal.returns
returns c =
    let s = c.args in
    let column : SFits w32 c.args.pair.column = search rules in
    let row : SFits w32 c.args.pair.row = search rules in
    let by : SFits w32 c.in_ok-by.by = search rules in
    let slant = to_z-of_z by ∙ c.in_ok-by.ensures.1 ∙ ap (slant_of s.mode) (to_z-of_z column) in
    let y = read w64 c.difference.result c.difference.type_inv ∙ c.difference.ensures.value ∙ ap₂ ◌-ℤ◌ (to_z-of_z row) slant in
    let same = ap₂ (λ (x y : ℤ). offset_of s.mode 0 (tile x y)) (read_wide column) y ∙ flat_tile s.mode s.pair in
    judged_tells _ _ _ _ c.try_from.result c.in_ok-by.ensures.0 same c.try_from.ensures
