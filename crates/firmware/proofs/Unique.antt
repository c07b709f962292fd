-- Each call's promise leaves one outcome: two outcomes, answer and lent run, that meet it are equal. (That efforts are at most 65535 is known of a lent table of unsigned 16-bit numbers.)
use mathlib.Core.Path.{◌≡◌, sym, ap, ap₂, subst, ◌∙◌}
use mathlib.Core.Bool.{◌&&◌}
use mathlib.Core.List.{List, [], ◌∷◌}
use Prim.Native.Nat.{ℕ}
use lib.IntN.{ℤ, pos}
use Rattle.hexes.specs.Answers.{Told}
use Rattle.hexes.specs.Tiles.{distance_of}
use Rattle.hexes.specs.declared.Tile.{Tile}
use Rattle.hexes.proofs.Tells.{One, one_value}
use Rattle.conversions.specs.Doubled.{doubled_of, to_doubled, FromDoubled}
use Rattle.conversions.specs.Grid.{known}
use Rattle.conversions.specs.Offset.{offset_of, to_offset, FromOffset}
use Rattle.conversions.specs.declared.GridPair.{GridPair}
use Rattle.conversions.proofs.DoubledLaws.{doubled_injective}
use Rattle.conversions.proofs.GridLaws.{from_grid_one}
use Rattle.conversions.proofs.OffsetLaws.{offset_injective}
use Rattle.rings.specs.Counts.{ring_count, wedge_count}
use Rattle.rings.specs.Judged.{refusal_of}
use Rattle.rings.specs.Rings.{ring, edge, spiral, wedge, corner_wedge}
use Rattle.storage.specs.Hexagonal.{row_column_in, to_row_column, FromRowColumn}
use Rattle.storage.specs.Hexmod.{index_of, FromHexmod}
use Rattle.storage.specs.declared.Index.{Index}
use Rattle.storage.specs.declared.Map.{Map}
use Rattle.storage.specs.declared.RowColumn.{RowColumn}
use Rattle.storage.proofs.Back.{one_index}
use Rattle.storage.proofs.Ending.{from_one}
use Rattle.storage.proofs.Rows.{one_row_column}
use Rattle.terrain.proofs.Totals.{Efforts}
use Rattle.field_of_movement.proofs.Unique.{riding_range_unique, check_totals_unique}
use Rattle.pathfinding.proofs.Unique.{route_unique}
use Rattle.firmware.specs.Calls.{minus, noted, answer_told, RangeCall, CheckCall, RouteCall}
use Rattle.firmware.specs.Lists.{ListCall}
use Rattle.firmware.specs.Numbers.{index_answered}
use Rattle.firmware.specs.Pairs.{of_tile, of_grid, of_row_column, PairCall}

pub kyrla_distance_unique : (a b : Tile) {r r' : ℤ} → r ≡ pos (distance_of a b) → r' ≡ pos (distance_of a b) → r ≡ r'
kyrla_distance_unique a b p q = p ∙ sym q

pub kyrla_index_unique : (map : Map) (t : Tile) {r r' : ℤ} → r ≡ index_answered map t → r' ≡ index_answered map t → r ≡ r'
kyrla_index_unique map t p q = p ∙ sym q

pub kyrla_ring_count_unique : (n : ℕ) {r r' : ℕ} → r ≡ ring_count n → r' ≡ ring_count n → r ≡ r'
kyrla_ring_count_unique n p q = p ∙ sym q

pub kyrla_wedge_count_unique : (n : ℕ) {r r' : ℕ} → r ≡ wedge_count n → r' ≡ wedge_count n → r ≡ r'
kyrla_wedge_count_unique n p q = p ∙ sym q

-- Of a call that lists, whatever it lists, and of one that writes a pair, whatever rule tells it, this is shown once.
module _ (before after after' : List ℤ) (r r' : ℤ) where
  list_call_unique : (number : ℕ) (tiles : List Tile) → ListCall number tiles before after r → ListCall number tiles before after' r' → (r ≡ r') × (after ≡ after')
  list_call_unique number tiles p q = (p.answers ∙ sym q.answers, p.holds ∙ sym q.holds)

  pub kyrla_ring_unique : (c : Tile) (n d sense : ℕ) → ListCall (refusal_of c n n d sense) (ring c d sense n) before after r → ListCall (refusal_of c n n d sense) (ring c d sense n) before after' r' → (r ≡ r') × (after ≡ after')
  kyrla_ring_unique c n d sense = list_call_unique _ _

  pub kyrla_ring_edge_unique : (c : Tile) (n v sense : ℕ) → ListCall (refusal_of c n n v sense) (edge c v sense n) before after r → ListCall (refusal_of c n n v sense) (edge c v sense n) before after' r' → (r ≡ r') × (after ≡ after')
  kyrla_ring_edge_unique c n v sense = list_call_unique _ _

  pub kyrla_wedge_unique : (c : Tile) (first last v sense : ℕ) → ListCall (refusal_of c first last v sense) (wedge c first last v sense) before after r → ListCall (refusal_of c first last v sense) (wedge c first last v sense) before after' r' → (r ≡ r') × (after ≡ after')
  kyrla_wedge_unique c first last v sense = list_call_unique _ _

  pub kyrla_corner_wedge_unique : (c : Tile) (first last d : ℕ) → ListCall (refusal_of c first last d 0) (corner_wedge c first last d) before after r → ListCall (refusal_of c first last d 0) (corner_wedge c first last d) before after' r' → (r ≡ r') × (after ≡ after')
  kyrla_corner_wedge_unique c first last d = list_call_unique _ _

  pub kyrla_spiral_unique : (c : Tile) (first last d sense : ℕ) → ListCall (refusal_of c first last d sense) (spiral c first last d sense) before after r → ListCall (refusal_of c first last d sense) (spiral c first last d sense) before after' r' → (r ≡ r') × (after ≡ after')
  kyrla_spiral_unique c first last d sense = list_call_unique _ _

  pair_call_unique : {A : Type 0} (rule : Told A → Type 0) (laid : A → Tile) → One rule → PairCall rule laid before after r → PairCall rule laid before after' r' → (r ≡ r') × (after ≡ after')
  unfolding One
  pair_call_unique {A} rule laid one p q =
      let e = one q.told p.told q.tells p.tells in
      list_call_unique _ _ p.lists (subst (λ (told : Told A). ListCall told.number (laid told.value ∷ []) before after' r') e q.lists)

  pub kyrla_tile_unique : (map : Map) (i : Index) → PairCall (FromHexmod map i) of_tile before after r → PairCall (FromHexmod map i) of_tile before after' r' → (r ≡ r') × (after ≡ after')
  kyrla_tile_unique map i = pair_call_unique _ _ (from_one map (index_of map) (one_index map) i)

  pub kyrla_row_column_unique : (map : Map) (t : Tile) → PairCall (λ told. told ≡ to_row_column map t) of_row_column before after r → PairCall (λ told. told ≡ to_row_column map t) of_row_column before after' r' → (r ≡ r') × (after ≡ after')
  kyrla_row_column_unique map t = pair_call_unique _ _ (one_value (to_row_column map t))

  pub kyrla_tile_at_unique : (map : Map) (at : RowColumn) → PairCall (FromRowColumn map at) of_tile before after r → PairCall (FromRowColumn map at) of_tile before after' r' → (r ≡ r') × (after ≡ after')
  kyrla_tile_at_unique map at = pair_call_unique _ _ (from_one map (row_column_in map) (one_row_column map) at)

  pub kyrla_to_offset_unique : (t : Tile) (mode orientation : ℕ) → PairCall (λ told. told ≡ to_offset t mode orientation) of_grid before after r → PairCall (λ told. told ≡ to_offset t mode orientation) of_grid before after' r' → (r ≡ r') × (after ≡ after')
  kyrla_to_offset_unique t mode orientation = pair_call_unique _ _ (one_value (to_offset t mode orientation))

  pub kyrla_from_offset_unique : (asked : GridPair) (mode orientation : ℕ) → PairCall (FromOffset asked mode orientation) of_tile before after r → PairCall (FromOffset asked mode orientation) of_tile before after' r' → (r ≡ r') × (after ≡ after')
  kyrla_from_offset_unique asked mode orientation =
      pair_call_unique _ _ (from_grid_one (known mode && known orientation) (offset_of mode orientation) asked (offset_injective mode orientation))

  pub kyrla_to_doubled_unique : (t : Tile) (mode : ℕ) → PairCall (λ told. told ≡ to_doubled t mode) of_grid before after r → PairCall (λ told. told ≡ to_doubled t mode) of_grid before after' r' → (r ≡ r') × (after ≡ after')
  kyrla_to_doubled_unique t mode = pair_call_unique _ _ (one_value (to_doubled t mode))

  pub kyrla_from_doubled_unique : (asked : GridPair) (mode : ℕ) → PairCall (FromDoubled asked mode) of_tile before after r → PairCall (FromDoubled asked mode) of_tile before after' r' → (r ≡ r') × (after ≡ after')
  kyrla_from_doubled_unique asked mode = pair_call_unique _ _ (from_grid_one (known mode) (doubled_of mode) asked (doubled_injective mode))

pub kyrla_range_unique : (map : Map) (efforts : List ℕ) (start : Tile) (budget : ℕ) (before after after' : List ℕ) (r r' : ℤ) → Efforts efforts → RangeCall map efforts start budget before after r → RangeCall map efforts start budget before after' r' → (r ≡ r') × (after ≡ after')
kyrla_range_unique map efforts start budget before after after' r r' short p q =
    let one = riding_range_unique map efforts start budget before after after' p.number q.number short p.ranges q.ranges in
    (p.answers ∙ ap minus one.0 ∙ sym q.answers, one.1)

pub kyrla_check_unique : (map : Map) (efforts : List ℕ) (start : Tile) (budget : ℕ) (totals before after after' : List ℕ) (r r' : ℤ) → CheckCall map efforts start budget totals before after r → CheckCall map efforts start budget totals before after' r' → (r ≡ r') × (after ≡ after')
kyrla_check_unique map efforts start budget totals before after after' r r' p q =
    let one = check_totals_unique map efforts start budget totals p.number p.index q.number q.index p.checks q.checks in
    (p.answers ∙ ap minus one.0 ∙ sym q.answers, p.notes ∙ ap₂ (λ (number index : ℕ). noted number index before) one.0 one.1 ∙ sym q.notes)

pub kyrla_route_unique : (map : Map) (efforts : List ℕ) (start end : Tile) (before after after' : List ℕ) (entry exit exit' : List ℤ) (r r' : ℤ) → Efforts efforts → RouteCall map efforts start end before after entry exit r → RouteCall map efforts start end before after' entry exit' r' → ((r ≡ r') × (exit ≡ exit')) × (after ≡ after')
kyrla_route_unique map efforts start end before after after' entry exit exit' r r' short p q =
    let one = route_unique map efforts start end before entry p.list q.list after after' exit exit' short p.routes q.routes in
    ((p.answers ∙ ap answer_told one.0.0 ∙ sym q.answers, one.0.1), one.1)
