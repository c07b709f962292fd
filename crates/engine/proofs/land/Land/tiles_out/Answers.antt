-- `tiles_out` meets its contract, table by table: the map is fine and the tile is of it, so the six neighbours are what is near.
use mathlib.Core.Path.{◌≡◌, ap, ◌∙◌}
use Rattle.std.specs.Prelude.{None}
use Prim.Native.Nat.{ℕ, ◌<◌}
use native.Mathlib.Omega.{arith}
use lib.ListN.{get_or}
use Rattle.storage.specs.Leaves.{near_in, number_or_none}
use Rattle.storage.proofs.Near.{entries_near}
use Rattle.terrain.specs.LandOfMap.{against}
use Rattle.engine.proofs.Paving.{few}
use Rattle.engine.proofs.land.Land.tiles_out.Goals as goal
use Rattle.engine.proofs.land.Land.tiles_out.Goals.{After-all_neighbors-near}

pub overflow_cast-u : goal.overflow_cast-u
overflow_cast-u c = record { fits = omega (arith, c.requires, few _ _ c.args.self.now.of_map) }

-- What the six entries are.
near : (c : After-all_neighbors-near) (d : ℕ) → d < 6 → number_or_none (get_or c.all_neighbors-near.result d None) ≡ near_in c.args.self.now.map c.args.u d
near c d h =
    let land = c.args.self.now in
    entries_near land.map c.args.u _ land.of_map.fine (omega (arith, c.requires, land.of_map.size)) c.all_neighbors-near.ensures d h

pub returns-in-Totals : goal.returns-in-Totals
returns-in-Totals c = λ d h. rw c.in-Totals.is (near (goal.at.returns-in-Totals c).After-all_neighbors-near d h)

pub returns-in-Ranks : goal.returns-in-Ranks
returns-in-Ranks c =
    λ d h. rw c.in-Ranks.is (ap number_or_none (c.turned.ensures d h) ∙ near (goal.at.returns-in-Ranks c).After-all_neighbors-near (against d) (omega arith))
