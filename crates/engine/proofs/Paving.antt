-- The two lands of a map with efforts are paved for the engine: out of each tile, in each direction, there is at most one step, to the tile and at the cost that the engine takes.
use mathlib.Core.Path.{◌≡◌, refl, sym, ap, ◌∙◌}
use mathlib.Core.Bool.{cond}
use mathlib.Core.List.{List}
use Prim.Native.Nat.{ℕ, ◌+◌, ◌*◌, ◌≤◌, ◌<◌}
use native.Mathlib.Omega.{arith}
use lib.Dec.{ltb}
use lib.ListN.{length, get_or}
use Rattle.paths.specs.Lands.{Land, remarked, Step}
use Rattle.routes.specs.Ranks.{multiplier}
use Rattle.routes.specs.Turned.{weight, turned}
use Rattle.hexes.specs.Limits.{barred}
use Rattle.storage.specs.Leaves.{near_in}
use Rattle.storage.specs.Maps.{area_of}
use Rattle.storage.specs.declared.Map.{Map}
use Rattle.storage.proofs.Maps.{fine, area_small}
use Rattle.storage.proofs.Near.{near_back}
use Rattle.terrain.specs.GroundOfMap.{ground_of}
use Rattle.terrain.specs.LandOfMap.{price_of, against, land_of}
use Rattle.terrain.proofs.Walks.{against_twice}
use Rattle.engine.specs.Leaves.{no_total, largest_area}
use Rattle.engine.specs.Settling.{Leads}
use Rattle.engine.specs.Steps.{effort_at, weight_by, to_of, cost_of}
use Rattle.engine.specs.Turns.{OfMap, Paved}
use Rattle.engine.specs.declared.steps.Table.{Table}
use Rattle.engine.proofs.StepCosts.{effort_within}

-- The land for ranks: the ground turned round, with the engine's mark for no way.
abbrev pub rank_land : Map → List ℕ → Land
rank_land map E = remarked (turned (ground_of map E) multiplier) no_total

module _ (map : Map) (E : List ℕ) (of : OfMap map E) where
  -- The tiles of the map are at most as many as the largest map has.
  pub few : length E ≤ largest_area
  few = omega (arith, of.size, area_small map.radius (fine map of.fine).small)

  -- A step by the opposite direction, and one by the direction itself, lead back.
  there_back : (t d : ℕ) → t < area_of map.radius → d < 6 → near_in map t (against d) < area_of map.radius → near_in map (near_in map t (against d)) d ≡ t
  there_back t d h l below =
      ap (near_in map (near_in map t (against d))) (sym (against_twice d l)) ∙ near_back map (fine map of.fine).small t (against d) h below

  -- Totals: a step of direction d into t comes from what is near by the opposite direction.
  totals_leads : (u d : ℕ) → u < length E → d < 6 → Leads (land_of map E no_total) u d (to_of Table.Totals map u d) (cost_of Table.Totals map E u d)
  totals_leads u d h l =
      record {
        only = λ y v st. let e = sym (near y v st) in (e, sym st.price ∙ price y st.into ∙ ap (λ (t : ℕ). price_of (effort_at E t)) e);
        opens =
            λ below paid.
            record { into = below; dir = l; from = near_back map (fine map of.fine).small u d on below; on = on; price = price (near_in map u d) below; paid = paid };
      }
    where
      on : u < area_of map.radius
      on = omega (arith, of.size)

      price : (t : ℕ) → t < area_of map.radius → price_of (get_or E t 0) ≡ price_of (effort_at E t)
      price t below = ap price_of (effort_within E t 0 (omega (arith, of.size)))

      near : (y v : ℕ) → Step (land_of map E no_total) u d y v → near_in map u d ≡ y
      near y v st = ap (λ (t : ℕ). near_in map t d) (sym st.from) ∙ there_back y d st.into l (omega (arith, st.from, on))

  pub totals_paved : Paved (land_of map E no_total) (length E) (to_of Table.Totals map) (cost_of Table.Totals map E)
  totals_paved = record { tiles = sym of.size; mark = refl; leads = totals_leads }

  -- Ranks: a step of direction d into t comes from what is near by that direction, for it is walked the other way. It weighs the effort of the tile that it leaves.
  weight_is : (u t d : ℕ) → near_in map t d ≡ u → weight (ground_of map E) multiplier t d ≡ weight_by (get_or E u 0) (get_or E t 0)
  unfolding weight_by
  weight_is u t d e = ap (λ (x : ℕ). cond (ltb (get_or E t 0) barred) (cond (ltb (get_or E x 0) barred) (get_or E x 0 * multiplier + 1) 0) 0) e

  ranks_leads : (u d : ℕ) → u < length E → d < 6 → Leads (rank_land map E) u d (to_of Table.Ranks map u d) (cost_of Table.Ranks map E u d)
  ranks_leads u d h l =
      record {
        only = λ y v st. let e = near y v st in (sym e, sym st.price ∙ weighs y st.into st.from ∙ ap (λ (t : ℕ). weight_by (get_or E u 0) (effort_at E t)) (sym e));
        opens =
            λ below paid.
            let back = there_back u d on l below in
            record { into = below; dir = l; from = back; on = on; price = weighs (near_in map u (against d)) below back; paid = paid };
      }
    where
      on : u < area_of map.radius
      on = omega (arith, of.size)

      weighs : (t : ℕ) → t < area_of map.radius → near_in map t d ≡ u → weight (ground_of map E) multiplier t d ≡ weight_by (get_or E u 0) (effort_at E t)
      weighs t below e = weight_is u t d e ∙ ap (weight_by (get_or E u 0)) (effort_within E t 0 (omega (arith, of.size)))

      near : (y v : ℕ) → Step (rank_land map E) u d y v → near_in map u (against d) ≡ y
      near y v st =
          ap (λ (t : ℕ). near_in map t (against d)) (sym st.from) ∙ near_back map (fine map of.fine).small y d st.into (omega (arith, st.from, on))

  pub ranks_paved : Paved (rank_land map E) (length E) (to_of Table.Ranks map) (cost_of Table.Ranks map E)
  ranks_paved = record { tiles = sym of.size; mark = refl; leads = ranks_leads }
