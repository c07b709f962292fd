-- `from_hexmod_coordinates` meets its contract: the tile that was found is of the map and has the index.
use Rattle.storage.specs.Hexmod.{index_of}
use Rattle.storage.proofs.Ending.{from_here}
use Rattle.storage.proofs.from_hexmod_coordinates.Goals as goal

pub returns : goal.returns
returns c = rw (← c.in_ok-here.ensures.0) (from_here c.in_ok-here.here index_of _ c.in_ok-here.ensures.1)
