-- Laws of filling a table: when it is filled, and that the totals that are written are right.
use mathlib.Core.Path.{◌≡◌, sym, ◌∙◌}
use mathlib.Core.Bool.{Bool, true, cond}
use mathlib.Core.List.{List}
use Prim.Native.Nat.{ℕ, ◌-◌, ◌*◌, ◌<◌, min}
use native.Mathlib.Decide.{ℕ_discrete, dec_lt}
use native.Mathlib.Omega.{arith}
use lib.Dec.{ltb}
use lib.ListN.{length}
use borrow.Author.Tests.{eq-eqb, lt-ltb, le-ltb, ltb-true}
use Rattle.paths.specs.Tables.{at, Right, Capped}
use Rattle.paths.proofs.PlainWords.{right_marked}
use Rattle.paths.proofs.ShortWalks.{least_capped}
use Rattle.hexes.specs.Limits.{barred, no_way}
use Rattle.hexes.proofs.Chains.{both}
use Rattle.storage.specs.Maps.{map_refusal, area_of, tiles_of}
use Rattle.storage.specs.declared.Map.{Map}
use Rattle.storage.proofs.Maps.{fine, tiles_refused, tiles_fine}
use Rattle.terrain.specs.Judging.{lengths_fit}
use Rattle.terrain.specs.LandOfMap.{land_of}
use Rattle.terrain.proofs.Judging.{lengths, fit_by_table}
use Rattle.terrain.proofs.Totals.{Efforts, capped, sums_below}
use Rattle.engine.specs.Filling.{fits, Fills}
use Rattle.engine.specs.Leaves.{no_total, largest_area}
use Rattle.engine.specs.Settling.{totals}
use Rattle.engine.specs.Steps.{to_of, cost_of}
use Rattle.engine.specs.Turns.{OfMap}
use Rattle.engine.specs.Writing.{Fits, Filled}
use Rattle.engine.specs.declared.steps.Table.{Table}
use Rattle.engine.proofs.Paving.{totals_paved}

-- Whether a table fits.
module _ (map : Map) (start efforts table : ℕ) where
  pub known_fits : start < tiles_of map → lengths_fit map efforts table ≡ true → Fits map start efforts table
  known_fits h f =
      let l = lengths map efforts table f in
      let z = some_tiles h (ℕ_discrete (map_refusal map) 0) in
      let t = tiles_fine map z in
      record { map_fine = z; efforts_length = l.0 ∙ t; table_length = l.1 ∙ t; on = omega arith }
    where
      some_tiles : start < tiles_of map → Dec (map_refusal map ≡ 0) → map_refusal map ≡ 0
      some_tiles h (yes z) = z
      some_tiles h (no n) = absurd (omega (arith, tiles_refused map n))

  pub fits_is : fits map start efforts table ≡ true → Fits map start efforts table
  unfolding fits
  fits_is e = let p = both _ _ e in known_fits (ltb-true start (tiles_of map) p.0) p.1

  pub fits_of : map_refusal map ≡ 0 → efforts ≡ area_of map.radius → table ≡ area_of map.radius → start < area_of map.radius → fits map start efforts table ≡ true
  unfolding fits
  fits_of z e t h =
      let a = tiles_fine map z in
      rw (lt-ltb start (tiles_of map) (omega arith)) (sym (fit_by_table map efforts table (e ∙ sym a)) ∙ eq-eqb table (tiles_of map) (t ∙ sym a))

-- A table that fits is filled.
pub filled : {fit : Bool} {Holds : List ℕ → Type 0} {before after : List ℕ} → true ≡ fit → length after ≡ length before → Holds after → Fills fit Holds before after
filled e size holds = record { filled = λ f. (size, holds); left = λ f. absurd (cc) }

-- A table in which all totals stand is right, with its own mark for no way: no least sum comes near either mark.
module _ (map : Map) (E : List ℕ) (s b : ℕ) (table : List ℕ) (of : OfMap map E) (short : Efforts E) (hs : s < area_of map.radius)
    (F : Filled (λ total. min total no_way) (to_of Table.Totals map) (cost_of Table.Totals map E) (length E) b s table) where
  abbrev T : ℕ → ℕ
  T = totals F.tree

  below : (mark : ℕ) → (largest_area - 1) * barred < mark → (area_of map.radius - 1) * barred < mark
  below mark = sums_below map (fine map of.fine).small E short mark

  right : Right (land_of map E no_total) T s b
  right = F.settles (land_of map E no_total) (totals_paved map E of)

  no_dearer : Capped (land_of map E no_total) barred
  no_dearer = capped map (fine map of.fine).small E short no_total

  entry : (t : ℕ) → t < area_of map.radius → Dec (T t < no_total) → min (T t) no_way ≡ cond (ltb (T t) no_total) (T t) no_way
  entry t h (yes l) = rw (lt-ltb (T t) no_total l) (omega (arith, least_capped no_dearer hs (right.found t h l).0, below no_way (omega arith)))
  entry t h (no l) = rw (le-ltb (T t) no_total (omega arith)) (omega arith)

  pub filled_right : Right (land_of map E no_way) (at table) s b
  filled_right =
      right_marked (land_of map E no_total) T (at table) s b barred no_way hs no_dearer (below no_total (omega arith)) (below no_way (omega arith))
      (λ t h. F.written.below t 0 (omega (arith, of.size)) ∙ entry t h (dec_lt (T t) no_total))
      right
