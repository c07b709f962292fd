-- `neighbor` meets its contract: by the way back, and by whether the tile beside is of the map.
use Rattle.hexes.proofs.Tells.{tells_more}
use Rattle.storage.specs.Hexmod.{index, index_of}
use Rattle.storage.proofs.Ending.{from_here}
use Rattle.storage.proofs.Maps.{judged_fine}
use Rattle.storage.proofs.Neighbors.{neighbor_found, beside_told}
use Rattle.storage.proofs.neighbor.Goals as goal

pub returns : goal.returns
returns c =
    let h = c.in_ok-here.here in
    let d = c.args.direction.0 in
    rw (← c.in_ok-here.ensures.0, c.ok_or.ensures.value, c.beside.ensures)
    (tells_more (index 0) _ _ (neighbor_found h.fine.map _ d h.tile (from_here h index_of _ c.in_ok-here.ensures.1)) _ (beside_told h.fine.map h.tile d (judged_fine h.fine)))
