-- How the two calls end that are accepted: with what the engine or the scan has told.
use mathlib.Core.Path.{◌≡◌, refl, sym, ap, ◌∙◌, subst}
use mathlib.Core.List.{List}
use Prim.Native.Nat.{ℕ, ◌≤◌, ◌<◌}
use native.Mathlib.Omega.{arith}
use lib.ListN.{length}
use Rattle.paths.specs.Tables.{at, Right}
use Rattle.hexes.specs.Answers.{Told, accepted}
use Rattle.hexes.specs.Limits.{no_way}
use Rattle.hexes.specs.Refusals.{not_right}
use Rattle.hexes.specs.declared.Tile.{Tile}
use Rattle.storage.specs.Hexmod.{index_in}
use Rattle.storage.specs.Maps.{area_of}
use Rattle.storage.specs.declared.Index.{Index}
use Rattle.storage.specs.declared.Map.{Map}
use Rattle.storage.proofs.Back.{index_below}
use Rattle.storage.proofs.Maps.{fine}
use Rattle.terrain.specs.Judging.{judged_start, call_refusal}
use Rattle.terrain.specs.LandOfMap.{land_of}
use Rattle.terrain.specs.NeighborRule.{Verdict}
use Rattle.terrain.proofs.Judging.{Judged, judged}
use Rattle.terrain.proofs.Totals.{Efforts, right_totals}
use Rattle.terrain.proofs.Verdicts.{verdict_right, verdict_broken}
use Rattle.engine.specs.Filling.{FillsTotals}
use Rattle.engine.proofs.Fillings.{fits_of}
use Rattle.field_of_movement.specs.Calls.{Ranges, Checks}
use Rattle.field_of_movement.specs.Scanning.{Scans}

module _ (map : Map) (efforts : List ℕ) (start : Tile) (budget : ℕ) (table : List ℕ) where
  -- Accepted, with the index of the start.
  module _ (i : Index) (e : accepted i ≡ judged_start map start (length efforts) (length table)) where
    none : call_refusal map start (length efforts) (length table) ≡ 0
    none = sym (ap (λ (told : Told Index). told.number) e)

    pub known : Judged map start (length efforts) (length table)
    known = (judged map start (length efforts) (length table) none).0

    pub is_start : i.0 ≡ index_in map start
    is_start = ap (λ (told : Told Index). told.value.0) (e ∙ (judged map start (length efforts) (length table) none).1)

    pub ranges_accepted : Efforts efforts → (after : List ℕ) → FillsTotals map efforts i.0 budget table after → Ranges map efforts start budget table after 0
    ranges_accepted short after f =
        let k = known in
        let r = f.filled (fits_of map i.0 (length efforts) (length table) k.map_fine k.efforts_length k.table_length (omega (arith, is_start, index_below map start))) in
        record {
          refused = λ l. absurd (omega (arith, none));
          accepted =
              λ z. (
                refl,
                right_totals map (fine map k.map_fine).small efforts short start k.on budget after (r.0 ∙ k.table_length)
                    (subst (λ (s : ℕ). Right (land_of map efforts no_way) (at after) s budget) is_start r.1),
              );
        }

    -- What the scan tells, read at the start's index.
    module _ (top : budget ≤ no_way) (entries : (t : ℕ) → at table t ≤ no_way) (k : ℕ) (s : Scans (land_of map efforts no_way) (at table) i.0 budget k) where
      at_start : Scans (land_of map efforts no_way) (at table) (index_in map start) budget k
      at_start = subst (λ (j : ℕ). Scans (land_of map efforts no_way) (at table) j budget k) is_start s

      checks_by : (n j : ℕ) → Verdict map efforts start budget table n j → Checks map efforts start budget table n j
      checks_by n j v = record { refused = λ l. absurd (omega (arith, none)); accepted = λ z. v }

      pub checks_broken : k < length table → (j : ℕ) → j ≡ k → Checks map efforts start budget table not_right j
      checks_broken h j e =
          let q = known in
          let l : k < area_of map.radius = omega (arith, q.table_length) in
          checks_by not_right j (subst (Verdict map efforts start budget table not_right) (sym e) (verdict_broken map (fine map q.map_fine).small efforts start q.on budget top table entries k l at_start.before (at_start.broken l)))

      pub checks_right : length table ≤ k → Checks map efforts start budget table 0 0
      checks_right h =
          let q = known in
          checks_by 0 0 (verdict_right map (fine map q.map_fine).small efforts start q.on budget top table entries (λ t l. at_start.before t (omega (arith, q.table_length))))
