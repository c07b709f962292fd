-- Why a table that the check accepts may be signed: it answers 0 exactly for the table of least sums over all paths, whoever made the table; and it answers 0 for the table that the riding
-- range writes, for every effort table and every budget.
use mathlib.Core.Path.{◌≡◌, sym, ap, ◌∙◌}
use mathlib.Core.Logic.{◌↔◌}
use mathlib.Core.List.{List}
use Prim.Native.Nat.{ℕ, ◌≤◌}
use lib.ListN.{length}
use Rattle.paths.specs.Tables.{at}
use Rattle.hexes.specs.Limits.{no_way}
use Rattle.hexes.specs.declared.Tile.{Tile}
use Rattle.storage.specs.declared.Map.{Map}
use Rattle.storage.proofs.Maps.{fine}
use Rattle.terrain.specs.Judging.{call_refusal}
use Rattle.terrain.specs.TilePaths.{LeastTotals}
use Rattle.terrain.proofs.Judging.{judged}
use Rattle.terrain.proofs.Totals.{Efforts}
use Rattle.terrain.proofs.Verdicts.{verdict_iff_totals}
use Rattle.field_of_movement.specs.Calls.{Ranges, Checks}

-- What is known of lent tables and of the budget by their types.
pub record Typed (efforts : List ℕ) (budget : ℕ) (totals : List ℕ) : Type 0 where
  pub efforts_16 : Efforts efforts
  pub budget_32 : budget ≤ no_way
  pub totals_32 : (i : ℕ) → at totals i ≤ no_way

module _ (map : Map) (efforts : List ℕ) (start : Tile) (budget : ℕ) where
  pub zero_iff_least : (totals : List ℕ) → Typed efforts budget totals → call_refusal map start (length efforts) (length totals) ≡ 0 → (number index : ℕ) → Checks map efforts start budget totals number index → (number ≡ 0) ↔ LeastTotals map efforts start budget totals
  zero_iff_least totals typed e number index c =
      let k = (judged map start (length efforts) (length totals) e).0 in
      verdict_iff_totals map (fine map k.map_fine).small efforts start k.on budget typed.budget_32 totals typed.totals_32 typed.efforts_16 k.table_length number index (c.accepted e)

  pub range_accepted : (before totals : List ℕ) (answer : ℕ) → call_refusal map start (length efforts) (length before) ≡ 0 → Ranges map efforts start budget before totals answer → Typed efforts budget totals → (number index : ℕ) → Checks map efforts start budget totals number index → number ≡ 0
  range_accepted before totals answer e r typed number index c =
      let L = (r.accepted e).1 in
      let k = (judged map start (length efforts) (length before) e).0 in
      let same : length before ≡ length totals = k.table_length ∙ sym L.size in
      (zero_iff_least totals typed (sym (ap (call_refusal map start (length efforts)) same) ∙ e) number index c).1 L
