-- `to_doubled_coordinates` meets its contract: by the axes of its mode every grid is converted as doubled width.
use mathlib.Core.Path.{◌∙◌}
use mathlib.Core.Bool.{true}
use Rattle.std.proofs.lemmas.Result.{err_from_is_err_and}
use Rattle.conversions.specs.Doubled.{doubled_of}
use Rattle.conversions.proofs.GridLaws.{to_found}
use Rattle.conversions.proofs.Mirror.{height_mirrors, limit_by, there_is}
use Rattle.conversions.proofs.to_doubled_coordinates.Goals as goal

pub returns-in_err-axes : goal.returns-in_err-axes
returns-in_err-axes c =
    let p = err_from_is_err_and c.from_residual.result c.from_residual.ensures.1 in
    rw (p.1, p.2) (c.in_err-axes.ensures true _)

pub to_width-pair-requires : goal.to_width-pair-requires
to_width-pair-requires c = rw c.tile.ensures (limit_by _ _ ∙ c.in_ok-axes.ensures.0)

pub returns : goal.returns
returns c =
    let s = c.args in
    let a = c.in_ok-axes.ensures in
    to_found s.tile _ (doubled_of s.mode s.tile) a.0 a.1 _ (there_is doubled_of height_mirrors s.mode (a.1, a.2) s.tile c.tile.ensures c.to_width-pair.ensures c.pair.ensures)
