-- `MapTile::new` meets its contract. The map was judged, so a tile that is not of it is refused by that alone.
use mathlib.Core.Path.{sym}
use Rattle.storage.proofs.Ending.{place_outside}
use Rattle.storage.proofs.Maps.{fine_of}
use Rattle.storage.proofs.map_tile.MapTile.new.Goals as goal

pub returns-then-not-is_of_map : goal.returns-then-not-is_of_map
returns-then-not-is_of_map c = place_outside _ _ (fine_of c.in_ok-fine.fine _ c.in_ok-fine.ensures) (sym c.if-not-is_of_map.ensures)
