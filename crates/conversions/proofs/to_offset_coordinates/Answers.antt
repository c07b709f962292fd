-- `to_offset_coordinates` meets its contract: by the axes of its orientation every grid is converted as a flat one.
use mathlib.Core.Path.{◌∙◌}
use Rattle.std.proofs.lemmas.Result.{err_from_is_err_and}
use Rattle.conversions.specs.Offset.{offset_of}
use Rattle.conversions.proofs.GridLaws.{to_unknown, to_found}
use Rattle.conversions.proofs.Mirror.{pointy_mirrors, limit_by, there_is}
use Rattle.conversions.proofs.to_offset_coordinates.Goals as goal

pub to_flat-requires : goal.to_flat-requires
to_flat-requires c = rw c.tile.ensures (limit_by _ _ ∙ c.in_ok-axes.ensures.0)

pub returns-in_err-pair : goal.returns-in_err-pair
returns-in_err-pair c =
    let p = err_from_is_err_and c.from_residual-in_err-pair.result c.from_residual-in_err-pair.ensures.1 in
    let u = c.in_err-pair.ensures in
    rw (p.1, p.2, u.1) (to_unknown _ _ _ c.in_ok-axes.ensures.0 (rw u.0))

pub returns : goal.returns
returns c =
    let s = c.args in
    let a = c.in_ok-axes.ensures in
    let p = c.in_ok-pair.ensures in
    to_found s.tile _ (offset_of s.mode s.orientation s.tile) a.0 (rw (p.0, a.1)) _ (there_is (offset_of s.mode) (pointy_mirrors s.mode) s.orientation (a.1, a.2) s.tile c.tile.ensures p.1 c.pair.ensures)
