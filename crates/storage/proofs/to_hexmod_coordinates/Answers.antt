-- `to_hexmod_coordinates` meets its contract: the tile that was found is the one asked for, and its index is told.
use Rattle.storage.specs.Hexmod.{index}
use Rattle.storage.proofs.Ending.{to_found}
use Rattle.storage.proofs.Maps.{judged_fine}
use Rattle.storage.proofs.to_hexmod_coordinates.Goals as goal

pub returns : goal.returns
returns c =
    let h = c.in_ok-here.here in
    rw (← c.in_ok-here.ensures.0, ← c.in_ok-here.ensures.1) (to_found (index 0) h.fine.map h.tile _ (judged_fine h.fine) h.of _ c.index.ensures)
