-- The ways in which a route ends: refused by its arguments, or accepted with what the engine has filled and the way down the ranks has told.
use mathlib.Core.Path.{◌≡◌, refl, sym, ap, ◌∙◌, subst}
use mathlib.Core.Bool.{Bool, true, false}
use mathlib.Core.List.{List, []}
use Prim.Native.Nat.{ℕ, zero, suc, ◌≤◌, ◌<◌}
use native.Mathlib.Omega.{arith}
use lib.IntN.{ℤ}
use lib.ListN.{length}
use Rattle.std.specs.Prelude.{Err}
use Rattle.paths.specs.Tables.{at}
use Rattle.routes.specs.Ranks.{Ranks}
use Rattle.hexes.specs.Answers.{Told, Answer, accepted, refused, provided}
use Rattle.hexes.specs.Limits.{radius_limit}
use Rattle.hexes.specs.Refusals.{number_of, not_of_map}
use Rattle.hexes.specs.declared.Tile.{Tile}
use Rattle.hexes.specs.declared.refusal.Refusal.{Refusal}
use Rattle.hexes.proofs.Tells.{refusal_number}
use Rattle.runs.proofs.Ending.{refused_for, lists_same}
use Rattle.storage.specs.Hexmod.{index, index_in, index_of, to_hexmod}
use Rattle.storage.specs.Maps.{map_refusal, of_map, area_of, judged_by, to_place}
use Rattle.storage.specs.declared.Index.{Index}
use Rattle.storage.specs.declared.Map.{Map}
use Rattle.storage.proofs.Back.{index_below}
use Rattle.storage.proofs.Ending.{from_found}
use Rattle.storage.proofs.Maps.{fine}
use Rattle.storage.proofs.RoundTrip.{index_there_and_back}
use Rattle.terrain.specs.GroundOfMap.{ground_of}
use Rattle.terrain.specs.Judging.{judged_start, call_refusal}
use Rattle.terrain.specs.TileRoutes.{RankTable}
use Rattle.terrain.proofs.GoingDown.{down_tiles, down_indices}
use Rattle.terrain.proofs.Judging.{Judged, judged}
use Rattle.terrain.proofs.RanksOfMap.{ranks_in_tiles, none_iff}
use Rattle.terrain.proofs.Totals.{Efforts}
use Rattle.engine.specs.Filling.{FillsRanks}
use Rattle.engine.proofs.Fillings.{fits_of}
use Rattle.pathfinding.specs.Calls.{route_refusal, Leads, lost, led, Routes}
use Rattle.pathfinding.specs.Ways as ways

module _ (map : Map) (efforts : List ℕ) (start end : Tile) (before : List ℕ) (entry : List ℤ) where
  -- Refused by the map or the start.
  pub refused_start : (n : ℕ) → 0 < n → refused (index 0) n ≡ to_hexmod map start → n ≡ route_refusal map start end (length efforts) (length before)
  unfolding route_refusal to_place
  refused_start n h e = go (map_refusal map) (of_map map start) e
    where
      go : (m : ℕ) (on : Bool) → refused (index 0) n ≡ judged_by m (refused (index 0)) (provided on (refused (index 0) not_of_map) (accepted (index_of map start)))
          → n ≡ judged_by m (λ number. number) (provided on not_of_map (call_refusal map end (length efforts) (length before)))
      go zero true e = let k : n ≡ 0 = ap (λ (v : Told Index). v.number) e in absurd (omega arith)
      go zero false e = ap (λ (v : Told Index). v.number) e
      go (suc m) on e = ap (λ (v : Told Index). v.number) e

  -- The start is of a map that is fine: the end and the lengths decide.
  module _ (i : Index) (e : accepted i ≡ to_hexmod map start) where
    found : (map_refusal map ≡ 0) × ((of_map map start ≡ true) × (index_of map start ≡ i))
    found = from_found map (index_of map) i start ((index_there_and_back map start i).0 (sym e))

    pub is_start : i.0 ≡ index_in map start
    is_start = sym (ap (λ (v : Index). v.0) found.1.1)

    by_end : call_refusal map end (length efforts) (length before) ≡ route_refusal map start end (length efforts) (length before)
    unfolding route_refusal
    by_end = rw (found.0, found.1.0)

    pub refused_end : (n : ℕ) → refused (index 0) n ≡ judged_start map end (length efforts) (length before) → n ≡ route_refusal map start end (length efforts) (length before)
    refused_end n q = ap (λ (v : Told Index). v.number) q ∙ by_end

    -- Neither refuses.
    module _ (j : Index) (q : accepted j ≡ judged_start map end (length efforts) (length before)) where
      none : call_refusal map end (length efforts) (length before) ≡ 0
      none = sym (ap (λ (v : Told Index). v.number) q)

      pub known : Judged map end (length efforts) (length before)
      known = (judged map end (length efforts) (length before) none).0

      pub is_end : j.0 ≡ index_in map end
      is_end = ap (λ (v : Told Index). v.value.0) (q ∙ (judged map end (length efforts) (length before) none).1)

      -- The engine has filled the table.
      pub filled : (after : List ℕ) → FillsRanks map efforts j.0 before after → (length after ≡ area_of map.radius) × Ranks (ground_of map efforts) j.0 (at after)
      filled after f =
          let k = known in
          let r = f.filled (fits_of map j.0 (length efforts) (length before) k.map_fine k.efforts_length k.table_length (omega (arith, is_end, index_below map end))) in
          (r.0 ∙ k.table_length, r.1)

      module _ (short : Efforts efforts) (after : List ℕ) (f : FillsRanks map efforts j.0 before after) where
        small : map.radius ≤ radius_limit
        small = (fine map known.map_fine).small

        table : RankTable map efforts end after
        table =
            ranks_in_tiles map small efforts short end known.on after (filled after f).0
            (subst (λ (t : ℕ). Ranks (ground_of map efforts) t (at after)) is_end (filled after f).1)

        leads : (r : Answer ℕ) (exit : List ℤ) → ways.TellsWay map efforts after (index_in map start) (index_in map end) entry r exit → Leads map efforts start end entry r exit
        leads r exit (ways.lost none listed) = lost ((none_iff map small efforts short end known.on after table start found.1.0).0 none) listed
        leads r exit (ways.led some ds way listed) =
            led _ (down_tiles map small efforts short end known.on after table start found.1.0 some ds way)
            (lists_same 0 _ _ (λ z. down_indices map small efforts short end known.on after table start found.1.0 some ds way) listed)

        pub routes_accepted : (r : Answer ℕ) (exit : List ℤ) → ways.TellsWay map efforts after i.0 j.0 entry r exit → Routes map efforts start end before entry r after exit
        routes_accepted r exit w =
            record {
              refused = λ l. absurd (omega (arith, none, by_end));
              accepted = λ z. (table, leads r exit (rw (is_start, is_end) at w));
            }

  -- Refused: both the table and the run are as they were.
  pub routes_refused : (e : Refusal) → number_of e ≡ route_refusal map start end (length efforts) (length before) → Routes map efforts start end before entry (Err e) before entry
  routes_refused e is =
      record {
        refused = λ l. (refused_for (route_refusal map start end (length efforts) (length before)) [] entry is, refl);
        accepted = λ z. absurd (omega (arith, is, refusal_number e));
      }
