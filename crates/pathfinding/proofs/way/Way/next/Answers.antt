-- `next` meets its contract: no direction passed makes up the rank, so the first that does is the one to take. The row of six has what is near.
use mathlib.Core.Path.{sym, ap, ◌∙◌}
use native.Mathlib.Omega.{arith}
use borrow.Author.Count.{below_more}
use borrow.Author.Tests.{eqb-true}
use Rattle.storage.specs.Leaves.{near_in, no_index, number_or_none}
use Rattle.storage.proofs.Maps.{fine, area_small}
use Rattle.storage.proofs.Near.{entries_near}
use Rattle.pathfinding.specs.Ways.{offer_of}
use Rattle.pathfinding.proofs.Stepping.{none_makes, first_taken, none_taken}
use Rattle.pathfinding.proofs.way.Way.next.Goals as goal

pub overflow_cast-u : goal.overflow_cast-u
overflow_cast-u c = let s = c.args.self.now in record { fits = omega (arith, c.requires.on, area_small s.map.radius (fine s.map s.fine).small) }

-- Where there is no neighbour, its number lies past every table, and no step makes up a rank.
pub loop-d-preserved-in_default : goal.loop-d-preserved-in_default
loop-d-preserved-in_default c =
    let s = c.args.self.now in
    below_more _ _ c.loop-d.invariant
    (rw c.in_default.is (none_makes s.efforts.now s.ranks.now no_index _ c.requires.has (omega (arith, s.ranks_len, area_small s.map.radius (fine s.map s.fine).small))))

pub returns-then-makes : goal.returns-then-makes
returns-then-makes c =
    let s = c.args.self.now in
    let d = c.loop-d.d in
    let offer = offer_of s.efforts.now s.ranks.now in
    let near = entries_near s.map c.args.u _ c.requires.fine c.requires.on c.all_neighbors-beside.ensures in
    let e = sym (ap number_or_none c.in-Some.is) ∙ near d c.loop-d-test.true in
    λ k t.
    e ∙ ap (near_in s.map c.args.u)
    (first_taken s.map s.efforts.now s.ranks.now c.args.u c.requires.is_open c.requires.ranks_length d k
    (ap offer (sym e) ∙ eqb-true _ _ (sym c.if-makes.ensures))
    (λ i h z. c.loop-d.invariant i h (ap offer (near i (omega arith)) ∙ z))
    t)

pub returns : goal.returns
returns c =
    let s = c.args.self.now in
    let near = entries_near s.map c.args.u _ c.requires.fine c.requires.on c.all_neighbors-beside.ensures in
    λ k t.
    absurd
    (none_taken s.map s.efforts.now s.ranks.now c.args.u c.requires.is_open c.requires.ranks_length k
    (λ i h z. c.loop-d.invariant i (omega arith) (ap (offer_of s.efforts.now s.ranks.now) (near i h) ∙ z))
    t)
