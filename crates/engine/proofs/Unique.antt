-- The promise of each public call leaves one outcome: two tables at its end that meet it are equal.
use mathlib.Core.Path.{◌≡◌, refl, sym, ◌∙◌}
use mathlib.Core.Bool.{Bool, true, false}
use mathlib.Core.List.{List}
use Prim.Native.Nat.{ℕ}
use lib.ListN.{length}
use Rattle.paths.proofs.PlainWords.{right_lists}
use Rattle.routes.proofs.RankTables.{rank_lists}
use Rattle.hexes.specs.Limits.{no_way}
use Rattle.storage.specs.declared.Map.{Map}
use Rattle.terrain.specs.GroundOfMap.{ground_of}
use Rattle.terrain.specs.LandOfMap.{land_of}
use Rattle.engine.specs.Filling.{Fills, FillsTotals, FillsRanks}
use Rattle.engine.proofs.Fillings.{fits_is}

-- Of a table that fits one outcome is left if what it should hold leaves one, among tables of that length.
module _ {fit : Bool} {Holds : List ℕ → Type 0} {before after after' : List ℕ} (p : Fills fit Holds before after) (q : Fills fit Holds before after') where
  fills_unique : (fit ≡ true → length after ≡ length before → length after' ≡ length before → Holds after → Holds after' → after ≡ after') → after ≡ after'
  fills_unique one = go fit refl
    where
      go : (b : Bool) → fit ≡ b → after ≡ after'
      go true e = let x = p.filled e in let y = q.filled e in one e x.0 y.0 x.1 y.1
      go false e = p.left e ∙ sym (q.left e)

pub fill_totals_unique : (map : Map) (efforts : List ℕ) (start budget : ℕ) (before after after' : List ℕ) → FillsTotals map efforts start budget before after → FillsTotals map efforts start budget before after' → after ≡ after'
fill_totals_unique map efforts start budget before after after' p q =
    fills_unique p q (λ e l l' x y. let a = (fits_is map start (length efforts) (length before) e).table_length in right_lists (land_of map efforts no_way) after after' start budget (l ∙ a) (l' ∙ a) x y)

pub fill_ranks_unique : (map : Map) (efforts : List ℕ) (end : ℕ) (before after after' : List ℕ) → FillsRanks map efforts end before after → FillsRanks map efforts end before after' → after ≡ after'
fill_ranks_unique map efforts end before after after' p q =
    fills_unique p q (λ e l l' x y. let a = (fits_is map end (length efforts) (length before) e).table_length in rank_lists {G = ground_of map efforts} {e = end} after after' (l ∙ a) (l' ∙ a) x y)
