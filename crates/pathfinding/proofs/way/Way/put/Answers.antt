-- `put` meets its contract: before each turn, what is written and what is left make up the way, and with each turn the rank falls.
use mathlib.Core.List.{List}
use Prim.Native.Nat.{ℕ, ◌+◌, ◌*◌, ◌%◌, ◌≤◌}
use native.Mathlib.Omega.{arith}
use lib.ListN.{length, get_or}
use Rattle.paths.specs.Tables.{at}
use Rattle.routes.specs.Descents.{Descent}
use Rattle.routes.specs.Ranks.{multiplier, Ranks}
use Rattle.routes.specs.Turned.{turned}
use Rattle.storage.specs.declared.Map.{Map}
use Rattle.terrain.specs.GroundOfMap.{ground_of}
use Rattle.pathfinding.specs.Ways.{Ranked, tiles_down}
use Rattle.pathfinding.proofs.Descent.{to_take, goes_down, left_all, left_next, left_last, way_length}
use Rattle.pathfinding.proofs.way.Way.put.Goals as goal

-- The run has room for the whole way.
room : (m : Map) (efforts ranks : List ℕ) (start end size : ℕ) → Ranked m efforts ranks start → Ranks (ground_of m efforts) end (at ranks) → 2 * (get_or ranks start 0 % multiplier + 1) ≤ size
    → (ds : List ℕ) → Descent (turned (ground_of m efforts) multiplier) (at ranks) end start ds → 2 * length (tiles_down m efforts start ds) ≤ size
room m efforts ranks start end size r K h ds D = omega (arith, way_length m efforts ranks end K start r ds D)

pub loop-u-init : goal.loop-u-init
loop-u-init c = let s = c.args.self.now in (c.requires.ranked, left_all s.map s.efforts.now s.ranks.now s.end c.args.run.now c.args.start)

pub loop-u-smaller : goal.loop-u-smaller
loop-u-smaller c =
    let s = c.args.self.now in
    let l = c.loop-u in
    (goes_down s.map s.efforts.now s.ranks.now s.end c.requires.ranks l.u l.invariant.0 c.loop-u-test.true c.next-u.result c.next-u.ensures).1

pub loop-u-preserved : goal.loop-u-preserved
loop-u-preserved c =
    let a = c.args in
    let s = a.self.now in
    let l = c.loop-u in
    let away = c.loop-u-test.true in
    let k = to_take s.map s.efforts.now s.ranks.now s.end c.requires.ranks l.u l.invariant.0 away in (
      (goes_down s.map s.efforts.now s.ranks.now s.end c.requires.ranks l.u l.invariant.0 away c.next-u.result c.next-u.ensures).0,
      λ ds D.
          left_next s.map s.efforts.now s.ranks.now s.end a.run.now a.start ds (room s.map s.efforts.now s.ranks.now a.start s.end (length a.run.now) c.requires.ranked c.requires.ranks c.requires.multiplier_in_bounds ds D)
          l.u l.place l.run l.auto.run (l.invariant.1 ds D) away k.0 c.next-u.result c.put-place.result k.1 (c.next-u.ensures k.0 k.1) c.tile.result c.tile.ensures _ c.put-place.ensures,
    )

pub returns : goal.returns
returns c =
    let a = c.args in
    let s = a.self.now in
    let l = c.loop-u in
    λ ds D.
    left_last s.map s.efforts.now s.ranks.now s.end a.run.now a.start ds (room s.map s.efforts.now s.ranks.now a.start s.end (length a.run.now) c.requires.ranked c.requires.ranks c.requires.multiplier_in_bounds ds D)
    l.u l.place l.run l.auto.run (l.invariant.1 ds D) c.loop-u-test.false c.put.result c.tile-2.result c.tile-2.ensures _ c.put.ensures
