-- `led` meets its contract: no rank and no route, a run too short for the way, or the way in the run.
use mathlib.Core.Path.{◌≡◌, refl, sym}
use mathlib.Core.List.{List, []}
use Prim.Native.Nat.{ℕ, ◌+◌, ◌%◌, ◌<◌}
use native.Mathlib.Omega.{arith}
use borrow.Author.Rules.{rules}
use lib.ListN.{length, get_or}
use Rattle.paths.specs.Tables.{at}
use Rattle.routes.specs.Descents.{Descent}
use Rattle.routes.specs.Ranks.{multiplier, no_rank, Ranks}
use Rattle.routes.specs.Turned.{turned}
use Rattle.routes.proofs.DownIsBest.{down_ends}
use Rattle.hexes.specs.Refusals.{no_open_path}
use Rattle.runs.proofs.Ending.{refused_for, short_of_room, listed_all}
use Rattle.storage.specs.Maps.{map_refusal, area_of}
use Rattle.storage.specs.declared.Map.{Map}
use Rattle.storage.proofs.Maps.{fine}
use Rattle.terrain.specs.GroundOfMap.{ground_of}
use Rattle.terrain.proofs.RoutesOfMap.{ground_fits}
use Rattle.pathfinding.specs.Ways.{Ranked, tiles_down, lost, led}
use Rattle.pathfinding.proofs.Descent.{open_effort, way_length}
use Rattle.pathfinding.proofs.way.Way.led.Goals as goal

-- The start has a rank, and from it a way leads down, with one tile more than its rank counts steps.
module _ (m : Map) (efforts ranks : List ℕ) (start end : ℕ) (z : map_refusal m ≡ 0) (e : length efforts ≡ area_of m.radius) (s : length ranks ≡ area_of m.radius) (on : start < area_of m.radius)
    (K : Ranks (ground_of m efforts) end (at ranks)) (has : get_or ranks start 0 < no_rank) where
  ranked : Ranked m efforts ranks start
  ranked = record { fine = z; efforts_length = e; ranks_length = s; on = on; is_open = open_effort m efforts ranks end K start on has; has = has }

  way : (ds : List ℕ) × (Descent (turned (ground_of m efforts) multiplier) (at ranks) end start ds × (length (tiles_down m efforts start ds) ≡ get_or ranks start 0 % multiplier + 1))
  way =
      let w = down_ends (ground_fits m (fine m z).small efforts) K on has in
      (w.0, (w.1, way_length m efforts ranks end K start ranked w.0 w.1))

pub returns-then-rank : goal.returns-then-rank
returns-then-rank c = lost c.if-rank.true (refused_for no_open_path [] _ refl)

pub returns-then-run-tiles : goal.returns-then-run-tiles
returns-then-run-tiles c =
    let a = c.args in
    let s = a.self.now in
    let has : get_or s.ranks.now a.start 0 < no_rank = search rules in
    let w = way s.map s.efforts.now s.ranks.now a.start s.end s.fine s.efforts_len s.ranks_len c.requires.start_bound c.requires.ranks has in
    led has w.0 w.1.0 (short_of_room 0 (tiles_down s.map s.efforts.now a.start w.0) a.run.now refl (omega (arith, w.1.1)))

pub put-requires-clause-ranked : goal.put-requires-clause-ranked
put-requires-clause-ranked c =
    let s = c.args.self.now in
    ranked _ _ _ _ _ s.fine s.efforts_len s.ranks_len c.requires.start_bound c.requires.ranks (search rules)

pub returns : goal.returns
returns c =
    let a = c.args in
    let s = a.self.now in
    let has : get_or s.ranks.now a.start 0 < no_rank = search rules in
    let w = way s.map s.efforts.now s.ranks.now a.start s.end s.fine s.efforts_len s.ranks_len c.requires.start_bound c.requires.ranks has in
    led has w.0 w.1.0
    (listed_all 0 (tiles_down s.map s.efforts.now a.start w.0) a.run.now refl (sym w.1.1) (omega (arith, w.1.1)) (c.put.ensures w.0 w.1.0))
