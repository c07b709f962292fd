-- `from_doubled_coordinates` meets its contract: by the axes of its mode every grid is led back from as doubled width.
use mathlib.Core.Bool.{true}
use Rattle.std.proofs.lemmas.Result.{err_from_is_err_and}
use Rattle.conversions.specs.Doubled.{doubled_of}
use Rattle.conversions.proofs.Mirror.{height_mirrors, back_found, back_refused}
use Rattle.conversions.proofs.from_doubled_coordinates.Goals as goal

pub returns-in_err-tile : goal.returns-in_err-tile
returns-in_err-tile c =
    let s = c.args in
    let p = err_from_is_err_and c.from_residual-in_err-tile.result c.from_residual-in_err-tile.ensures.1 in
    rw (p.1, p.2) (back_refused doubled_of height_mirrors s.mode c.in_ok-axes.ensures true s.pair c.pair.ensures _ c.in_err-tile.ensures)

pub returns : goal.returns
returns c =
    let s = c.args in
    back_found doubled_of height_mirrors s.mode c.in_ok-axes.ensures true s.pair c.pair.ensures c.in_ok-tile.ensures c.tile.ensures
