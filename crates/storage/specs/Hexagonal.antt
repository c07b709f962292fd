-- Row and column of a tile of a map, relative to its centre: row = y + r, column = x + r - max(0, r - row). The way back asks for the one tile of the map with a row and column.
use Rattle.std.specs.Prelude.{ℕ, ◌-◌, ℤ, pos, negsuc, ◌+ℤ◌, ◌-ℤ◌}
use Rattle.hexes.specs.Answers.{Told, Answer, Tells}
use Rattle.hexes.specs.declared.Tile.{Tile}
use Rattle.storage.specs.Maps.{to_place, FromPlace}
use Rattle.storage.specs.declared.Map.{Map}
use Rattle.storage.specs.declared.RowColumn.{RowColumn}

-- A whole number that is not negative, as a natural one. Of a tile of the map, neither row nor column is negative (`Rattle.storage.proofs.Rows`).
abbrev pub natural : ℤ → ℕ
natural (pos n) = n
natural (negsuc n) = 0

unfoldable pub row_in : Map → Tile → ℕ
row_in map t = natural ((t.y -ℤ map.centre.y) +ℤ pos map.radius)

-- `r - row` of natural numbers is 0 where row is the larger, so it is max(0, r - row).
unfoldable pub column_in : Map → Tile → ℕ
column_in map t = natural (((t.x -ℤ map.centre.x) +ℤ pos map.radius) -ℤ pos (map.radius - row_in map t))

abbrev pub row_column : ℕ → ℕ → RowColumn
row_column row column = record { row = row; column = column }

abbrev pub row_column_in : Map → Tile → RowColumn
row_column_in map t = row_column (row_in map t) (column_in map t)

-- What the answer of a call that finds a row and column tells.
abbrev pub RowColumnTells : Answer RowColumn → (Told RowColumn → Type 0) → Type 0
RowColumnTells = Tells (row_column 0 0)

-- What the way there tells, and what the way back.
abbrev pub to_row_column : Map → Tile → Told RowColumn
to_row_column map t = to_place (row_column 0 0) map t (row_column_in map t)

abbrev pub FromRowColumn : Map → RowColumn → Told Tile → Type 0
FromRowColumn map asked = FromPlace map (row_column_in map) asked
