-- `from_offset_coordinates` meets its contract: by the axes of its orientation every grid is led back from as a flat one.
use Rattle.std.proofs.lemmas.Result.{err_from_is_err_and}
use Rattle.conversions.specs.Grid.{known}
use Rattle.conversions.specs.Offset.{offset_of}
use Rattle.conversions.proofs.Mirror.{pointy_mirrors, back_found, back_refused}
use Rattle.conversions.proofs.from_offset_coordinates.Goals as goal

pub returns-in_err-tile : goal.returns-in_err-tile
returns-in_err-tile c =
    let s = c.args in
    let p = err_from_is_err_and c.from_residual-in_err-tile.result c.from_residual-in_err-tile.ensures.1 in
    rw (p.1, p.2) (back_refused (offset_of s.mode) (pointy_mirrors s.mode) s.orientation c.in_ok-axes.ensures (known s.mode) s.pair c.pair.ensures _ c.in_err-tile.ensures)

pub returns : goal.returns
returns c =
    let s = c.args in
    back_found (offset_of s.mode) (pointy_mirrors s.mode) s.orientation c.in_ok-axes.ensures (known s.mode) s.pair c.pair.ensures c.in_ok-tile.ensures c.tile.ensures
