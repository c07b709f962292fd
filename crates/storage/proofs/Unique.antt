-- Each public call's promise leaves one answer: two answers that meet it are equal.
use mathlib.Core.Path.{◌≡◌, refl, sym, ap, ◌∙◌}
use mathlib.Core.Bool.{Bool}
use mathlib.Core.List.{List}
use Prim.Native.Nat.{ℕ}
use native.Mathlib.Omega.{arith}
use Rattle.std.specs.Prelude.{Option, None, Some}
use Rattle.hexes.specs.Answers.{Told, Answer, TileTells}
use Rattle.hexes.specs.Refusals.{number_given}
use Rattle.hexes.specs.declared.Tile.{Tile}
use Rattle.hexes.specs.declared.refusal.Refusal.{Refusal}
use Rattle.hexes.proofs.Tells.{One, one_value, refusal_number, refusal_one, tells_one, tile_tells_one}
use Rattle.storage.specs.Maps.{map_refusal, of_map, tiles_of}
use Rattle.storage.specs.Hexagonal.{row_column, row_column_in, RowColumnTells, to_row_column, FromRowColumn}
use Rattle.storage.specs.Hexmod.{index, index_of, IndexTells, to_hexmod, FromHexmod}
use Rattle.storage.specs.Neighbors.{Neighbor, SixNeighbors}
use Rattle.storage.specs.declared.Index.{Index}
use Rattle.storage.specs.declared.Map.{Map}
use Rattle.storage.specs.declared.RowColumn.{RowColumn}
use Rattle.storage.proofs.Back.{one_index}
use Rattle.storage.proofs.Ending.{from_one}
use Rattle.storage.proofs.Neighbors.{one_neighbor, one_six}
use Rattle.storage.proofs.Rows.{one_row_column}

-- A refusal that may be none is told by its number.
given_one : (r s : Option Refusal) → number_given r ≡ number_given s → r ≡ s
given_one None None e = refl
given_one None (Some f) e = absurd (omega (arith, refusal_number f))
given_one (Some e) None h = absurd (omega (arith, refusal_number e))
given_one (Some e) (Some f) h = ap (λ (g : Refusal). Some g) (refusal_one e f h)

pub refusal_of_unique : (map : Map) {r s : Option Refusal} → number_given r ≡ map_refusal map → number_given s ≡ map_refusal map → r ≡ s
refusal_of_unique map {r} {s} p q = given_one r s (p ∙ sym q)

pub area_unique : (map : Map) {r s : ℕ} → r ≡ tiles_of map → s ≡ tiles_of map → r ≡ s
area_unique map p q = p ∙ sym q

pub is_of_map_unique : (map : Map) (t : Tile) {r s : Bool} → r ≡ of_map map t → s ≡ of_map map t → r ≡ s
is_of_map_unique map t p q = p ∙ sym q

pub index_tells_one : (rule : Told Index → Type 0) → One rule → (r s : Answer Index) → IndexTells r rule → IndexTells s rule → r ≡ s
index_tells_one = tells_one (index 0)

pub to_hexmod_unique : (map : Map) (t : Tile) (r s : Answer Index) → IndexTells r (λ told. told ≡ to_hexmod map t) → IndexTells s (λ told. told ≡ to_hexmod map t) → r ≡ s
to_hexmod_unique map t = index_tells_one _ (one_value (to_hexmod map t))

pub from_hexmod_unique : (map : Map) (i : Index) (r s : Answer Tile) → TileTells r (FromHexmod map i) → TileTells s (FromHexmod map i) → r ≡ s
from_hexmod_unique map i = tile_tells_one _ (from_one map (index_of map) (one_index map) i)

pub neighbor_unique : (map : Map) (i : Index) (d : ℕ) (r s : Answer Index) → IndexTells r (Neighbor map i d) → IndexTells s (Neighbor map i d) → r ≡ s
neighbor_unique map i d = index_tells_one _ (one_neighbor map i d)

pub all_neighbors_unique : (map : Map) (i : Index) (r s : List (Option Index)) → SixNeighbors map i r → SixNeighbors map i s → r ≡ s
all_neighbors_unique = one_six

pub to_row_column_unique : (map : Map) (t : Tile) (r s : Answer RowColumn) → RowColumnTells r (λ told. told ≡ to_row_column map t) → RowColumnTells s (λ told. told ≡ to_row_column map t) → r ≡ s
to_row_column_unique map t = tells_one (row_column 0 0) _ (one_value (to_row_column map t))

pub from_row_column_unique : (map : Map) (at : RowColumn) (r s : Answer Tile) → TileTells r (FromRowColumn map at) → TileTells s (FromRowColumn map at) → r ≡ s
from_row_column_unique map at = tile_tells_one _ (from_one map (row_column_in map) (one_row_column map) at)
