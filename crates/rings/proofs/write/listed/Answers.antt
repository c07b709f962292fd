-- `listed` meets its contract, by the three ways in which a listing ends.
use mathlib.Core.Path.{◌≡◌, sym, ap, ◌∙◌}
use Prim.Native.Nat.{◌+◌, ◌-◌}
use native.Mathlib.Omega.{arith}
use lib.ListN.{length}
use Rattle.hexes.proofs.Tells.{passed_on}
use Rattle.runs.proofs.Ending.{refused_for, short_of_room, listed_all}
use Rattle.runs.proofs.Laying.{laid_as}
use Rattle.rings.specs.Leaves.{figures, tiles_of}
use Rattle.rings.proofs.Judging.{Fine, fine}
use Rattle.rings.proofs.Shapes.{figures_length}
use Rattle.rings.proofs.write.listed.Goals as goal
use Rattle.rings.proofs.write.listed.Goals.{In_ok-judge, After-tiles_of-tiles}

-- Past the judgement the arguments are fine.
passed : (c : In_ok-judge) → Fine c.args.centre c.args.first c.args.last c.args.figure.direction c.args.figure.sense
passed c = fine _ _ _ _ _ (sym c.in_ok-judge.ensures)

-- The number of tiles that was counted is that of the list.
counted : (c : After-tiles_of-tiles) → c.tiles_of-tiles.result ≡ length (figures c.args.figure c.args.centre c.args.first (c.args.last + 1 - c.args.first))
counted c =
    let a = c.args in
    let p = fine _ _ _ _ _ (sym c.in_ok-judge.ensures) in
    c.tiles_of-tiles.ensures
    ∙ ap (tiles_of a.figure.shape a.first) c.ranges_of-count.ensures
    ∙ sym (figures_length a.figure a.centre a.first (a.last + 1 - a.first) p.fine_sense)

pub returns-in_err-judge : goal.returns-in_err-judge
returns-in_err-judge c = rw (passed_on _ c.from_residual.ensures.1) (refused_for _ _ _ c.in_err-judge.ensures)

pub ranges_of-count-requires : goal.ranges_of-count-requires
ranges_of-count-requires c = (passed c).fine_last

pub tiles_of-tiles-requires : goal.tiles_of-tiles-requires
tiles_of-tiles-requires c =
    let p = passed (goal.at.tiles_of-tiles-requires c).In_ok-judge in
    omega (arith, c.ranges_of-count.ensures, p.fine_first, p.fine_last)

pub returns-then-run-tiles : goal.returns-then-run-tiles
returns-then-run-tiles c = short_of_room _ _ _ (sym c.in_ok-judge.ensures) (omega (arith, c.if-run-tiles.true, counted (goal.at.returns-then-run-tiles c).After-tiles_of-tiles))

pub invariant_of-placed : goal.invariant_of-placed
invariant_of-placed c =
    let p = passed (goal.at.invariant_of-placed c).In_ok-judge in
    record { near = p.near; fits = record { fits_direction = p.fine_direction; fits_sense = p.fine_sense } }

pub put-requires-clause-count_bound : goal.put-requires-clause-count_bound
put-requires-clause-count_bound c =
    let p = passed (goal.at.put-requires-clause-count_bound c).In_ok-judge in
    omega (arith, c.ranges_of-count.ensures, p.fine_first, p.fine_last)

pub put-requires-clause-count_in_bounds : goal.put-requires-clause-count_in_bounds
put-requires-clause-count_in_bounds c =
    let n = counted (goal.at.put-requires-clause-count_in_bounds c).After-tiles_of-tiles in
    rw c.ranges_of-count.ensures (omega (arith, c.if-run-tiles.false, n))

pub returns : goal.returns
returns c =
    let a = c.args in
    let n = counted (goal.at.returns c).After-tiles_of-tiles in
    listed_all _ _ _ (sym c.in_ok-judge.ensures) n (omega (arith, c.if-run-tiles.false, n)) (laid_as (ap (figures a.figure a.centre a.first) c.ranges_of-count.ensures) c.put.ensures)
