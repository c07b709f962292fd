-- Laws of how a call is judged: the ways in which it is refused, and what is known of one that is not.
use mathlib.Core.Path.{◌≡◌, refl, sym, ap, ◌∙◌}
use mathlib.Core.Bool.{Bool, true, false}
use Prim.Native.Nat.{ℕ, zero, suc}
use native.Mathlib.Omega.{arith}
use lib.Dec.{eqb}
use borrow.Author.Tests.{eq-eqb, eqb-true}
use Rattle.hexes.specs.Answers.{Told, accepted, refused, provided}
use Rattle.hexes.specs.Refusals.{number_of, not_of_map, wrong_length}
use Rattle.hexes.specs.declared.Tile.{Tile}
use Rattle.hexes.specs.declared.refusal.Refusal.{Refusal}
use Rattle.hexes.proofs.Chains.{both}
use Rattle.hexes.proofs.Tells.{refusal_number}
use Rattle.storage.specs.Hexmod.{index, index_of, to_hexmod}
use Rattle.storage.specs.Maps.{map_refusal, of_map, area_of, tiles_of, judged_by, to_place}
use Rattle.storage.specs.declared.Index.{Index}
use Rattle.storage.specs.declared.Map.{Map}
use Rattle.storage.proofs.Ending.{from_found}
use Rattle.storage.proofs.Maps.{tiles_fine}
use Rattle.storage.proofs.RoundTrip.{index_there_and_back}
use Rattle.terrain.specs.Judging.{lengths_fit, judged_start, call_refusal}

module _ (map : Map) (efforts table : ℕ) where
  pub fit_by_table : efforts ≡ tiles_of map → eqb table (tiles_of map) ≡ lengths_fit map efforts table
  unfolding lengths_fit
  fit_by_table p = rw (eq-eqb efforts (tiles_of map) p)

  pub lengths : lengths_fit map efforts table ≡ true → (efforts ≡ tiles_of map) × (table ≡ tiles_of map)
  unfolding lengths_fit
  lengths e = let p = both _ _ e in (eqb-true _ _ p.0, eqb-true _ _ p.1)

-- What is known of a call that is not refused.
pub record Judged (map : Map) (start : Tile) (efforts table : ℕ) : Type 0 where
  pub map_fine : map_refusal map ≡ 0
  pub on : of_map map start ≡ true
  pub efforts_length : efforts ≡ area_of map.radius
  pub table_length : table ≡ area_of map.radius

module _ (map : Map) (start : Tile) (efforts table : ℕ) where
  -- Where the way to the start's index refuses, so does the call, and with the same number.
  pub judged_refused : (e : Refusal) → refused (index 0) (number_of e) ≡ to_hexmod map start → refused (index 0) (number_of e) ≡ judged_start map start efforts table
  unfolding judged_start to_place
  judged_refused e h = go (map_refusal map) (of_map map start) h
    where
      go : (m : ℕ) (on : Bool) → refused (index 0) (number_of e) ≡ judged_by m (refused (index 0)) (provided on (refused (index 0) not_of_map) (accepted (index_of map start)))
          → refused (index 0) (number_of e) ≡ judged_by m (refused (index 0)) (provided on (refused (index 0) not_of_map) (provided (lengths_fit map efforts table) (refused (index 0) wrong_length) (accepted (index_of map start))))
      go zero true h = let k : number_of e ≡ 0 = ap (λ (v : Told Index). v.number) h in absurd (omega (arith, refusal_number e))
      go zero false h = h
      go (suc m) on h = h

  -- Where it finds an index, the lengths decide.
  module _ (i : Index) (e : accepted i ≡ to_hexmod map start) where
    found : (map_refusal map ≡ 0) × ((of_map map start ≡ true) × (index_of map start ≡ i))
    found = from_found map (index_of map) i start ((index_there_and_back map start i).0 (sym e))

    pub judged_misfit : lengths_fit map efforts table ≡ false → refused (index 0) wrong_length ≡ judged_start map start efforts table
    unfolding judged_start
    judged_misfit f = rw (found.0, found.1.0, f)

    pub judged_fit : lengths_fit map efforts table ≡ true → accepted i ≡ judged_start map start efforts table
    unfolding judged_start
    judged_fit f = rw (found.0, found.1.0, f) (ap accepted (sym found.1.1))

  -- A call that is accepted, and the index that it is told.
  pub judged : call_refusal map start efforts table ≡ 0 → Judged map start efforts table × (judged_start map start efforts table ≡ accepted (index_of map start))
  unfolding judged_start
  judged e = go (map_refusal map) refl (of_map map start) refl (lengths_fit map efforts table) refl e
    where
      go : (n : ℕ) → map_refusal map ≡ n → (on : Bool) → of_map map start ≡ on → (fit : Bool) → lengths_fit map efforts table ≡ fit
          → (judged_by n (refused (index 0)) (provided on (refused (index 0) not_of_map) (provided fit (refused (index 0) wrong_length) (accepted (index_of map start))))).number ≡ 0
          → Judged map start efforts table × (judged_by n (refused (index 0)) (provided on (refused (index 0) not_of_map) (provided fit (refused (index 0) wrong_length) (accepted (index_of map start)))) ≡ accepted (index_of map start))
      go zero z true o true f e =
          let l = lengths map efforts table f in
          (record { map_fine = z; on = o; efforts_length = l.0 ∙ tiles_fine map z; table_length = l.1 ∙ tiles_fine map z }, refl)
      go zero z true o false f e = absurd (omega arith)
      go zero z false o fit f e = absurd (omega arith)
      go (suc n) z on o fit f e = absurd (omega arith)
