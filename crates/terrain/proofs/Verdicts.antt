-- The verdict on a table: where a scan of the rule by index leads, that it is 0 exactly for the table of least sums, and that there is one.
use mathlib.Core.Path.{◌≡◌, refl, sym, ◌∙◌}
use mathlib.Core.Bool.{true}
use mathlib.Core.Logic.{◌↔◌}
use mathlib.Core.List.{List}
use Prim.Native.Nat.{ℕ, ◌≤◌, ◌<◌}
use native.Mathlib.Decide.{dec_lt}
use native.Mathlib.Omega.{arith}
use lib.ListN.{length}
use Rattle.paths.specs.NeighborRule.{want}
use Rattle.paths.specs.Tables.{at}
use Rattle.paths.proofs.RuleIsRight.{rule_iff_right}
use Rattle.hexes.specs.Limits.{no_way, radius_limit}
use Rattle.hexes.specs.Refusals.{not_right}
use Rattle.hexes.specs.declared.Tile.{Tile}
use Rattle.storage.specs.Hexmod.{index_in}
use Rattle.storage.specs.Leaves.{tile_at_index}
use Rattle.storage.specs.Maps.{of_map, area_of}
use Rattle.storage.specs.declared.Map.{Map}
use Rattle.storage.proofs.Back.{index_below, tile_of_map, tile_has_index}
use Rattle.terrain.specs.TilePaths.{LeastTotals}
use Rattle.terrain.specs.NeighborRule.{Keeps, Verdict, right, broken}
use Rattle.terrain.specs.LandOfMap.{land_of}
use Rattle.terrain.proofs.Rules.{keeps_of, of_keeps}
use Rattle.terrain.proofs.Totals.{Efforts, totals_iff_right}

module _ (map : Map) (small : map.radius ≤ radius_limit) (efforts : List ℕ) (start : Tile) (on : of_map map start ≡ true) (budget : ℕ) (top : budget ≤ no_way) (totals : List ℕ) (fits : (i : ℕ) → at totals i ≤ no_way) where
  -- The rule holds at an index.
  abbrev pub Holds : ℕ → Type 0
  Holds i = at totals i ≡ want (land_of map efforts no_way) (at totals) (index_in map start) budget i

  keeps_at : (t : Tile) → of_map map t ≡ true → Holds (index_in map t) → Keeps map efforts start budget totals t
  keeps_at t h = keeps_of map small efforts start on budget totals fits t h top

  holds_at : (i : ℕ) → i < area_of map.radius → Keeps map efforts start budget totals (tile_at_index map i) → Holds i
  holds_at i h K = rw (tile_has_index map i h) at (of_keeps map small efforts start on budget totals fits (tile_at_index map i) (tile_of_map map i h) top K)

  -- The two ways in which a scan by index ends.
  pub verdict_right : ((i : ℕ) → i < area_of map.radius → Holds i) → Verdict map efforts start budget totals 0 0
  verdict_right f = right refl refl (λ t h. keeps_at t h (f (index_in map t) (index_below map t)))

  pub verdict_broken : (k : ℕ) → k < area_of map.radius → ((i : ℕ) → i < k → Holds i) → (Holds k → ⊥) → Verdict map efforts start budget totals not_right k
  verdict_broken k h f g =
      broken refl (tile_at_index map k) (tile_of_map map k h) (tile_has_index map k h) (λ K. g (holds_at k h K)) (λ u hu l. keeps_at u hu (f (index_in map u) l))

  -- A table of the map's length keeps the rule at every tile exactly if it is the table of least sums.
  pub keeps_iff_totals : Efforts efforts → length totals ≡ area_of map.radius → ((t : Tile) → of_map map t ≡ true → Keeps map efforts start budget totals t) ↔ LeastTotals map efforts start budget totals
  keeps_iff_totals short e =
      let p = rule_iff_right (land_of map efforts no_way) (at totals) (index_in map start) budget (index_below map start) in
      let q = totals_iff_right map small efforts short start on budget totals in (
        λ f. q.1 (e, p.0 (record { each = λ i h. holds_at i h (f (tile_at_index map i) (tile_of_map map i h)) })),
        λ L t h. keeps_at t h ((p.1 (q.0 L).1).each (index_in map t) (index_below map t)),
      )

  -- So the verdict is 0 exactly for that table.
  pub verdict_iff_totals : Efforts efforts → length totals ≡ area_of map.radius → (number index : ℕ) → Verdict map efforts start budget totals number index → (number ≡ 0) ↔ LeastTotals map efforts start budget totals
  verdict_iff_totals short e number index v = (λ z. q.0 (all v z), λ L. zero v (q.1 L))
    where
      q : ((t : Tile) → of_map map t ≡ true → Keeps map efforts start budget totals t) ↔ LeastTotals map efforts start budget totals
      q = keeps_iff_totals short e

      all : Verdict map efforts start budget totals number index → number ≡ 0 → (t : Tile) → of_map map t ≡ true → Keeps map efforts start budget totals t
      all (right en ei f) z = f
      all (broken en t h ei g f) z = absurd (omega arith)

      zero : Verdict map efforts start budget totals number index → ((t : Tile) → of_map map t ≡ true → Keeps map efforts start budget totals t) → number ≡ 0
      zero (right en ei f) k = en
      zero (broken en t h ei g f) k = absurd (g (k t h))

-- One verdict.
pub one_verdict : (map : Map) (efforts : List ℕ) (start : Tile) (budget : ℕ) (totals : List ℕ) (n i n' i' : ℕ) → Verdict map efforts start budget totals n i → Verdict map efforts start budget totals n' i' → (n ≡ n') × (i ≡ i')
one_verdict map efforts start budget totals n i n' i' (right en ei f) (right en' ei' f') = (en ∙ sym en', ei ∙ sym ei')
one_verdict map efforts start budget totals n i n' i' (right en ei f) (broken en' t h e g k) = absurd (g (f t h))
one_verdict map efforts start budget totals n i n' i' (broken en t h e g k) (right en' ei' f) = absurd (g (f t h))
one_verdict map efforts start budget totals n i n' i' (broken en t h e g k) (broken en' t' h' e' g' k') = (en ∙ sym en', same (dec_lt i i') (dec_lt i' i))
  where
    same : Dec (i < i') → Dec (i' < i) → i ≡ i'
    same (yes l) x = absurd (g (k' t h (omega arith)))
    same (no l) (yes x) = absurd (g' (k t' h' (omega arith)))
    same (no l) (no x) = omega arith
