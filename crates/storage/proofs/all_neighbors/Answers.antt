-- `all_neighbors` meets its contract: what stands beside the tile that the way back tells.
use Rattle.storage.specs.Hexmod.{index_of}
use Rattle.storage.proofs.Ending.{from_here}
use Rattle.storage.proofs.Neighbors.{six_found}
use Rattle.storage.proofs.all_neighbors.Goals as goal

pub returns-in-Ok : goal.returns-in-Ok
returns-in-Ok c =
    let h = c.in-Ok.here in
    let row = c.all_beside.ensures in
    rw (← c.in-Ok.ensures.0) (six_found _ _ h.tile (from_here h index_of _ c.in-Ok.ensures.1) _ row.result_len row.by_index)
