-- `to_row_column` meets its contract: the tile that was found is the one asked for, and its row and column are told.
use Rattle.storage.specs.Hexagonal.{row_column}
use Rattle.storage.proofs.Ending.{to_found}
use Rattle.storage.proofs.Maps.{judged_fine}
use Rattle.storage.proofs.to_row_column.Goals as goal

pub returns : goal.returns
returns c =
    let h = c.in_ok-here.here in
    rw (← c.in_ok-here.ensures.0, ← c.in_ok-here.ensures.1) (to_found (row_column 0 0) h.fine.map h.tile _ (judged_fine h.fine) h.of _ c.row_column.ensures)
