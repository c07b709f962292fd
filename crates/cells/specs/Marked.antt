-- The cells worked by hand that the paper marks M, as one table of what is asked and what is told, and one statement over it: each is told by the definitions that the
-- promises cite. `proofs/Marked` proves the statement. The cells that are not marked are run by this program.
use Rattle.std.specs.Prelude.{◌≡◌, List, [], ◌∷◌, ℕ, pos, negsuc}
use Rattle.hexes.specs.Answers.{Told, accepted, refused_tile}
use Rattle.hexes.specs.Tiles.{tile}
use Rattle.hexes.specs.declared.Tile.{Tile}
use Rattle.conversions.specs.Grid.{pair}
use Rattle.conversions.specs.Offset.{to_offset}
use Rattle.conversions.specs.Doubled.{to_doubled, FromDoubled}
use Rattle.conversions.specs.declared.GridPair.{GridPair}
use Rattle.rings.specs.Counts.{wedge_count}
use Rattle.rings.specs.Rings.{ring, edge, corner_wedge}
use Rattle.storage.specs.Hexagonal.{row_column, to_row_column, FromRowColumn}
use Rattle.storage.specs.Hexmod.{index, to_hexmod, FromHexmod}
use Rattle.storage.specs.declared.Map.{Map}
use Rattle.terrain.specs.TilePaths.{LeastTotals}
use Rattle.terrain.specs.TileRoutes.{BestTiles}

-- What is asked, and then what is told.
pub data Cell : Type 0 where
  offset : Tile → ℕ → ℕ → Told GridPair → Cell
  doubled : Tile → ℕ → Told GridPair → Cell
  from_doubled : GridPair → ℕ → Told Tile → Cell
  ring_of : Tile → ℕ → ℕ → ℕ → List Tile → Cell
  edge_of : Tile → ℕ → ℕ → ℕ → List Tile → Cell
  corner_wedge_of : Tile → ℕ → ℕ → ℕ → List Tile → Cell
  wedge_count_of : ℕ → ℕ → Cell
  indexed : Map → ℕ → Tile → Cell
  in_row : Map → ℕ → ℕ → Tile → Cell
  ranged : Map → List ℕ → Tile → ℕ → List ℕ → Cell
  led : Map → List ℕ → Tile → Tile → List Tile → Cell

-- A cell holds if the definition tells what it says.
abbrev pub Holds : Cell → Type 0
Holds (offset t mode orientation told) = to_offset t mode orientation ≡ told
Holds (doubled t mode told) = to_doubled t mode ≡ told
Holds (from_doubled asked mode told) = FromDoubled asked mode told
Holds (ring_of centre range direction sense tiles) = ring centre direction sense range ≡ tiles
Holds (edge_of centre range vertex sense tiles) = edge centre vertex sense range ≡ tiles
Holds (corner_wedge_of centre first last direction tiles) = corner_wedge centre first last direction ≡ tiles
Holds (wedge_count_of n count) = wedge_count n ≡ count
Holds (indexed map i t) = (to_hexmod map t ≡ accepted (index i)) × FromHexmod map (index i) (accepted t)
Holds (in_row map row column t) = (to_row_column map t ≡ accepted (row_column row column)) × FromRowColumn map (row_column row column) (accepted t)
Holds (ranged map efforts start budget totals) = LeastTotals map efforts start budget totals
Holds (led map efforts start end tiles) = BestTiles map efforts start end tiles

-- A map round (0, 0).
abbrev pub disc : ℕ → Map
disc r = record { centre = tile (pos 0) (pos 0); radius = r }

-- `negsuc 0` is -1, `negsuc 1` is -2 and `negsuc 2` is -3. Mode Even is 0 and Odd 1, orientation Flat 0; mode DoubledWidth is 0 and DoubledHeight 1.
abbrev pub marked : List Cell
marked =
    -- M1 and M2: the ring of (0, 0) of range 1 from direction 0, in sense 0 and in sense 1.
    ring_of (tile (pos 0) (pos 0)) 1 0 0 (tile (pos 1) (pos 0) ∷ tile (pos 1) (negsuc 0) ∷ tile (pos 0) (negsuc 0) ∷ tile (negsuc 0) (pos 0) ∷ tile (negsuc 0) (pos 1) ∷ tile (pos 0) (pos 1) ∷ [])
    ∷ ring_of (tile (pos 0) (pos 0)) 1 0 1 (tile (pos 1) (pos 0) ∷ tile (pos 0) (pos 1) ∷ tile (negsuc 0) (pos 1) ∷ tile (negsuc 0) (pos 0) ∷ tile (pos 0) (negsuc 0) ∷ tile (pos 1) (negsuc 0) ∷ [])
    -- M3: the ring of range 0 of (5, -3) is that tile.
    ∷ ring_of (tile (pos 5) (negsuc 2)) 0 0 0 (tile (pos 5) (negsuc 2) ∷ [])
    -- M4: the edge of range 2 at vertex 0 in sense 0.
    ∷ edge_of (tile (pos 0) (pos 0)) 2 0 0 (tile (pos 2) (pos 0) ∷ tile (pos 2) (negsuc 0) ∷ tile (pos 2) (negsuc 1) ∷ [])
    -- M5: the corner wedge of ranges 0 to 2 in direction 0.
    ∷ corner_wedge_of (tile (pos 0) (pos 0)) 0 2 0 (tile (pos 0) (pos 0) ∷ tile (pos 1) (pos 0) ∷ tile (pos 2) (pos 0) ∷ tile (pos 2) (negsuc 0) ∷ tile (pos 1) (pos 1) ∷ [])
    -- M6: the wedge counts of 13, 65535 and 4294967295.
    ∷ wedge_count_of 13 105
    ∷ wedge_count_of 65535 2147516416
    ∷ wedge_count_of 4294967295 9223372039002259456
    -- M7: the indices 0 to 6 of radius 1, there and back.
    ∷ indexed (disc 1) 0 (tile (pos 0) (pos 0))
    ∷ indexed (disc 1) 1 (tile (pos 0) (pos 1))
    ∷ indexed (disc 1) 2 (tile (negsuc 0) (pos 0))
    ∷ indexed (disc 1) 3 (tile (negsuc 0) (pos 1))
    ∷ indexed (disc 1) 4 (tile (pos 1) (negsuc 0))
    ∷ indexed (disc 1) 5 (tile (pos 1) (pos 0))
    ∷ indexed (disc 1) 6 (tile (pos 0) (negsuc 0))
    -- M8: of radius 2, (-2, 2) is 5 and 14 is (2, -2).
    ∷ indexed (disc 2) 5 (tile (negsuc 1) (pos 2))
    ∷ indexed (disc 2) 14 (tile (pos 2) (negsuc 1))
    -- M9: (-3, 4) is (-3, 2) in flat odd and (-3, 3) in flat even.
    ∷ offset (tile (negsuc 2) (pos 4)) 1 0 (accepted (pair (negsuc 2) (pos 2)))
    ∷ offset (tile (negsuc 2) (pos 4)) 0 0 (accepted (pair (negsuc 2) (pos 3)))
    -- M10: (-3, 4) is (-2, 4) in doubled width and (-3, 5) in doubled height; from doubled width (1, 0) there is no tile: 4.
    ∷ doubled (tile (negsuc 2) (pos 4)) 0 (accepted (pair (negsuc 1) (pos 4)))
    ∷ doubled (tile (negsuc 2) (pos 4)) 1 (accepted (pair (negsuc 2) (pos 5)))
    ∷ from_doubled (pair (pos 1) (pos 0)) 0 (refused_tile 4)
    -- M11: of radius 1, (0, -1) is row 0, column 0 and (0, 1) row 2, column 1, there and back.
    ∷ in_row (disc 1) 0 0 (tile (pos 0) (negsuc 0))
    ∷ in_row (disc 1) 2 1 (tile (pos 0) (pos 1))
    -- M12: of radius 1, from (0, 0), which is barred, the others 0 but index 5, which has 3: within a budget of 4, and within 3, where no way leads to index 5.
    ∷ ranged (disc 1) (65535 ∷ 0 ∷ 0 ∷ 0 ∷ 0 ∷ 3 ∷ 0 ∷ []) (tile (pos 0) (pos 0)) 4 (0 ∷ 1 ∷ 1 ∷ 1 ∷ 1 ∷ 4 ∷ 1 ∷ [])
    ∷ ranged (disc 1) (65535 ∷ 0 ∷ 0 ∷ 0 ∷ 0 ∷ 3 ∷ 0 ∷ []) (tile (pos 0) (pos 0)) 3 (0 ∷ 1 ∷ 1 ∷ 1 ∷ 1 ∷ 4294967295 ∷ 1 ∷ [])
    -- M13: of radius 1, the centre 5, the others 0: from (1, 0) to (-1, 0).
    ∷ led (disc 1) (5 ∷ 0 ∷ 0 ∷ 0 ∷ 0 ∷ 0 ∷ 0 ∷ []) (tile (pos 1) (pos 0)) (tile (negsuc 0) (pos 0)) (tile (pos 1) (pos 0) ∷ tile (pos 1) (negsuc 0) ∷ tile (pos 0) (negsuc 0) ∷ tile (negsuc 0) (pos 0) ∷ [])
    ∷ []

-- The statement: every cell of a table holds.
abbrev pub AllHold : List Cell → Type 0
AllHold [] = Unit
AllHold (c ∷ cells) = Holds c × AllHold cells
