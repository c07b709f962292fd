-- `route` meets its contract: refused at the start, at the end or by a length; or the ranks are filled and the way goes down them.
use native.Mathlib.Omega.{arith}
use Rattle.hexes.proofs.Tells.{passed_on, refusal_number}
use Rattle.storage.proofs.Back.{index_below}
use Rattle.pathfinding.proofs.Calling.{refused_start, is_start, refused_end, known, filled, routes_accepted, routes_refused}
use Rattle.pathfinding.proofs.route.Goals as goal

pub returns-in_err-first : goal.returns-in_err-first
returns-in_err-first c =
    let a = c.args in
    rw (passed_on _ c.from_residual.ensures.1)
    (routes_refused a.map a.efforts.now a.start a.end a.ranks.now a.run.now _ (refused_start a.map a.efforts.now a.start a.end a.ranks.now a.run.now _ (refusal_number _) c.in_err-first.ensures))

pub returns-in_err-last : goal.returns-in_err-last
returns-in_err-last c =
    let a = c.args in
    rw (passed_on _ c.from_residual-in_err-last.ensures.1)
    (routes_refused a.map a.efforts.now a.start a.end a.ranks.now a.run.now _ (refused_end a.map a.efforts.now a.start a.end a.ranks.now a.run.now _ c.in_ok-first.ensures _ c.in_err-last.ensures))

pub invariant_of-way : goal.invariant_of-way
invariant_of-way c =
    let a = c.args in
    let k = known a.map a.efforts.now a.start a.end a.ranks.now a.run.now _ c.in_ok-first.ensures _ c.in_ok-last.ensures in
    record {
      fine = k.map_fine;
      efforts_len = k.efforts_length;
      ranks_len = (filled a.map a.efforts.now a.start a.end a.ranks.now a.run.now _ c.in_ok-first.ensures _ c.in_ok-last.ensures _ c.fill_ranks.ensures).0;
    }

pub led-requires-clause-start_bound : goal.led-requires-clause-start_bound
led-requires-clause-start_bound c =
    let a = c.args in
    omega (arith, is_start a.map a.efforts.now a.start a.end a.ranks.now a.run.now _ c.in_ok-first.ensures, index_below a.map a.start)

pub led-requires-clause-ranks : goal.led-requires-clause-ranks
led-requires-clause-ranks c =
    let a = c.args in
    (filled a.map a.efforts.now a.start a.end a.ranks.now a.run.now _ c.in_ok-first.ensures _ c.in_ok-last.ensures _ c.fill_ranks.ensures).1

pub returns : goal.returns
returns c =
    let a = c.args in
    routes_accepted a.map a.efforts.now a.start a.end a.ranks.now a.run.now _ c.in_ok-first.ensures _ c.in_ok-last.ensures (λ i. omega (arith, c.type_inv.efforts i)) _ c.fill_ranks.ensures _ _ c.led.ensures
