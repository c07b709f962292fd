-- `kyrla_row_column` meets its contract: the row and column of the tile are asked for, and written.
use mathlib.Core.Path.{◌≡◌, refl, sym, subst}
use mathlib.Core.Bool.{Bool, true, false}
use Prim.Native.Nat.{ℕ, zero, suc}
use native.Mathlib.Omega.{arith}
use Rattle.std.specs.Prelude.{Ok}
use Rattle.hexes.specs.Answers.{Told, Answer, accepted, refused, provided}
use Rattle.hexes.specs.Refusals.{not_of_map}
use Rattle.hexes.specs.declared.Tile.{Tile}
use Rattle.storage.specs.Hexagonal.{row_column, row_column_in, RowColumnTells, to_row_column}
use Rattle.storage.specs.Maps.{map_refusal, of_map, judged_by, to_place}
use Rattle.storage.specs.declared.Map.{Map}
use Rattle.storage.specs.declared.RowColumn.{RowColumn}
use Rattle.storage.proofs.Maps.{fine}
use Rattle.storage.proofs.Rows.{row_low, column_low}
use Rattle.firmware.specs.Pairs.{Signed}
use Rattle.firmware.proofs.pairs.kyrla_row_column.Goals as goal

-- A map has at most 121 rows, and no row more tiles than that.
entries_small : (map : Map) (t : Tile) → Signed (to_row_column map t).value
unfolding to_place
entries_small map t = go (map_refusal map) (of_map map t) refl refl
  where
    go : (n : ℕ) (b : Bool) → map_refusal map ≡ n → of_map map t ≡ b → Signed (judged_by n (refused (row_column 0 0)) (provided b (refused (row_column 0 0) not_of_map) (accepted (row_column_in map t)))).value
    go zero true z i = let r = (fine map z).small in (omega (arith, r, row_low map t i), omega (arith, r, column_low map t i))
    go zero false z i = (omega arith, omega arith)
    go (suc n) b z i = (omega arith, omega arith)

-- So a row and a column that are found are as small.
found_small : (map : Map) (t : Tile) (a : Answer RowColumn) → RowColumnTells a (λ told. told ≡ to_row_column map t) → (p : RowColumn) → a ≡ Ok p → Signed p
found_small map t a h p is =
    let k = subst (λ (b : Answer RowColumn). RowColumnTells b (λ told. told ≡ to_row_column map t)) is h in
    subst (λ (told : Told RowColumn). Signed told.value) (sym k) (entries_small map t)

pub map-pair-requires : goal.map-pair-requires
map-pair-requires c = found_small _ _ c.to_row_column.result c.to_row_column.ensures
