-- Before each turn the entries of the directions passed stand in the row.
use Rattle.std.proofs.Common.{◌≡◌, ℕ, ◌<◌}
use lib.ListN.{length, get_or}
use Rattle.std.specs.Prelude.{None}
use Rattle.storage.specs.Leaves.{beside_at}
use Rattle.storage.proofs.map_tile.MapTile.all_beside.Given as goal

abbrev pub invariant-loop-d : goal.invariant-loop-d
invariant-loop-d l = (length l.entries ≡ 6) × ((k : ℕ) → k < l.d → get_or l.entries k None ≡ beside_at l.self.fine.map l.self.tile k)
