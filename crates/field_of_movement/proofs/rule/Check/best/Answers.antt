-- `best` meets its contract: at the loop's head it is the best offer by the directions below d.
use mathlib.Core.Path.{◌∙◌}
use native.Mathlib.Omega.{arith}
use borrow.Author.Rules.{rules}
use Rattle.storage.proofs.Maps.{fine, area_small}
use Rattle.storage.proofs.Near.{entries_near}
use Rattle.terrain.specs.LandOfMap.{against}
use Rattle.field_of_movement.proofs.Offering.{offer_is, best_none, best_next}
use Rattle.field_of_movement.proofs.rule.Check.best.Goals as goal

-- The index is a tile's, and the tiles of a map are few enough for 32 bits.
pub overflow_cast-i : goal.overflow_cast-i
overflow_cast-i c = let s = c.args.self.now in record { fits = omega (arith, c.requires, s.totals_len, area_small s.map.radius (fine s.map s.fine).small) }

pub loop-d-init : goal.loop-d-init
loop-d-init c = let s = c.args.self.now in best_none s.map s.efforts.now s.totals.now c.args.i

-- One more direction: what the tile there offers is what the step offers in the land.
pub loop-d-preserved : goal.loop-d-preserved
loop-d-preserved c =
    let s = c.args.self.now in
    let i = c.args.i in
    let d = c.loop-d.d in
    let near = entries_near s.map i c.all_neighbors-beside.result s.fine (omega (arith, c.requires, s.totals_len)) c.all_neighbors-beside.ensures (against d) (omega arith) in
    let offered = offer_is s.map s.efforts.now s.totals.now i d _ _ s.totals_len near c.price_of-price.ensures.value in
    let next = best_next s.map s.efforts.now s.totals.now i d _ _ c.loop-d.invariant (c.offer.ensures ∙ offered) in
    search (rules, next)
