-- There and back, of index and of row and column: a tile has what is asked exactly if what is asked has that tile.
use mathlib.Core.Path.{◌≡◌, refl, sym, ap}
use mathlib.Core.Bool.{Bool, true, false, cond}
use mathlib.Core.Logic.{◌↔◌}
use Prim.Native.Nat.{ℕ, zero, suc}
use native.Mathlib.Omega.{arith}
use Rattle.hexes.specs.Answers.{Told, accepted, refused}
use Rattle.hexes.specs.Refusals.{not_of_map}
use Rattle.hexes.specs.declared.Tile.{Tile}
use Rattle.storage.specs.Hexagonal.{to_row_column, FromRowColumn, row_column, row_column_in}
use Rattle.storage.specs.Hexmod.{index, index_of, to_hexmod, FromHexmod}
use Rattle.storage.specs.Maps.{map_refusal, of_map, judged_by, to_place, of, FromPlace}
use Rattle.storage.specs.declared.Index.{Index}
use Rattle.storage.specs.declared.Map.{Map}
use Rattle.storage.specs.declared.RowColumn.{RowColumn}
use Rattle.storage.proofs.Ending.{from_fine, from_found, to_found}

module _ {A : Type 0} (zeros : A) (map : Map) (has : Tile → A) (t : Tile) (asked : A) where
  pub there_then_back : to_place zeros map t (has t) ≡ accepted asked → FromPlace map has asked (accepted t)
  unfolding to_place
  there_then_back e = go (map_refusal map) refl (of_map map t) refl e
    where
      go : (n : ℕ) → map_refusal map ≡ n → (b : Bool) → of_map map t ≡ b → judged_by n (refused zeros) (cond b (accepted (has t)) (refused zeros not_of_map)) ≡ accepted asked → FromPlace map has asked (accepted t)
      go zero z true p e = from_fine map has asked z (of t p (ap (λ (v : Told A). v.value) e))
      go zero z false p e = let k : ◌≡◌ {A = ℕ} 5 0 = ap (λ (v : Told A). v.number) e in absurd (omega arith)
      go (suc n) z b p e = let k : suc n ≡ 0 = ap (λ (v : Told A). v.number) e in absurd (omega arith)

  pub back_then_there : FromPlace map has asked (accepted t) → to_place zeros map t (has t) ≡ accepted asked
  back_then_there h = let f = from_found map has asked t h in sym (to_found zeros map t (has t) f.0 f.1.0 asked (sym f.1.1))

pub index_there_and_back : (map : Map) (t : Tile) (i : Index) → (to_hexmod map t ≡ accepted i) ↔ FromHexmod map i (accepted t)
index_there_and_back map t i = (there_then_back (index 0) map (index_of map) t i, back_then_there (index 0) map (index_of map) t i)

pub row_column_there_and_back : (map : Map) (t : Tile) (at : RowColumn) → (to_row_column map t ≡ accepted at) ↔ FromRowColumn map at (accepted t)
row_column_there_and_back map t at = (there_then_back (row_column 0 0) map (row_column_in map) t at, back_then_there (row_column 0 0) map (row_column_in map) t at)
