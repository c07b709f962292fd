-- Every marked cell holds of the definitions: lists, counts and the ways there by computing them, the ways back of a map by the law that they follow, a refusal by the law
-- that says when there is no tile, and tables and routes over paths by what `terrain` shows of them.
use mathlib.Core.Path.{◌≡◌, refl}
use Prim.Native.Nat.{ℕ}
use lib.IntN.{pos}
use Rattle.whole.specs.Euclid.{quotient, remainder}
use Rattle.hexes.specs.Directions.{step_of}
use Rattle.hexes.specs.Answers.{accepted}
use Rattle.hexes.specs.Tiles.{within_limit, distance_of, span}
use Rattle.hexes.specs.declared.Tile.{Tile}
use Rattle.conversions.specs.Doubled.{doubled_of}
use Rattle.conversions.specs.Grid.{to_grid, pair, TheTile}
use Rattle.conversions.specs.Offset.{slant_of, offset_of}
use Rattle.conversions.proofs.GridLaws.{from_known}
use Rattle.conversions.proofs.RoundTrip.{odd_has_no_tile}
use Rattle.runs.specs.Lists.{gather}
use Rattle.rings.specs.Counts.{wedge_count}
use Rattle.rings.specs.Rings.{along, corner, ring, edge, corner_edge}
use Rattle.storage.specs.Hexagonal.{row_in, column_in, row_column, row_column_in, to_row_column}
use Rattle.storage.specs.Hexmod.{index, index_in, index_of, to_hexmod}
use Rattle.storage.specs.Maps.{map_refusal, of_map, to_place, FromPlace}
use Rattle.storage.specs.declared.Map.{Map}
use Rattle.storage.proofs.RoundTrip.{there_then_back}
use Rattle.terrain.proofs.Marked.{range_of_four, range_of_three, route_round}
use Rattle.cells.specs.Marked.{Holds, indexed, in_row, marked, AllHold}

-- What a tile has in a map is computed, and the way back follows.
there_and_back : {A : Type 0} (zeros : A) (map : Map) (has : Tile → A) (t : Tile) (asked : A) → to_place zeros map t (has t) ≡ accepted asked → (to_place zeros map t (has t) ≡ accepted asked) × FromPlace map has asked (accepted t)
there_and_back zeros map has t asked e = (e, there_then_back zeros map has t asked e)

indexed_holds : (map : Map) (i : ℕ) (t : Tile) → to_hexmod map t ≡ accepted (index i) → Holds (indexed map i t)
indexed_holds map i t = there_and_back (index 0) map (index_of map) t (index i)

in_row_holds : (map : Map) (row column : ℕ) (t : Tile) → to_row_column map t ≡ accepted (row_column row column) → Holds (in_row map row column t)
in_row_holds map row column t = there_and_back (row_column 0 0) map (row_column_in map) t (row_column row column)

pub every_marked_cell_holds : AllHold marked
unfolding quotient remainder step_of within_limit distance_of span doubled_of to_grid slant_of offset_of gather wedge_count along corner ring edge corner_edge map_refusal of_map to_place index_in row_in column_in
every_marked_cell_holds =
    (refl, (refl, (refl, (refl, (refl, (refl, (refl, (refl, (indexed_holds _ _ _ refl, (indexed_holds _ _ _ refl, (indexed_holds _ _ _ refl, (indexed_holds _ _ _ refl, (indexed_holds _ _ _ refl, (indexed_holds _ _ _ refl, (indexed_holds _ _ _ refl, (indexed_holds _ _ _ refl, (indexed_holds _ _ _ refl, (refl, (refl, (refl, (refl, (from_known refl (TheTile.none ((odd_has_no_tile 0 (pair (pos 1) (pos 0)) refl).0 refl)), (in_row_holds _ _ _ _ refl, (in_row_holds _ _ _ _ refl, (range_of_four, (range_of_three, (route_round, tt)))))))))))))))))))))))))))
