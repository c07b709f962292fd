-- What the calls for C that write a pair promise: what the calls below tell, with the pair laid in the lent run as a list of one tile is.
use Rattle.std.specs.Prelude.{List, [], ◌∷◌, ◌<◌, ◌^◌, ℤ, pos, Ok, Err}
use Rattle.hexes.specs.Answers.{Told, Answer, accepted, refused}
use Rattle.hexes.specs.Refusals.{number_of}
use Rattle.hexes.specs.Tiles.{tile}
use Rattle.hexes.specs.declared.Tile.{Tile}
use Rattle.storage.specs.declared.RowColumn.{RowColumn}
use Rattle.conversions.specs.declared.GridPair.{GridPair}
use Rattle.firmware.specs.Lists.{ListCall}

-- The two entries of a pair, named as those of a tile are: of a tile its own, of a pair of a grid the column and the row, of a row and column the row first.
abbrev pub of_tile : Tile → Tile
of_tile t = t

abbrev pub of_grid : GridPair → Tile
of_grid p = tile p.column p.row

abbrev pub of_row_column : RowColumn → Tile
of_row_column p = tile (pos p.row) (pos p.column)

-- A call that is told a pair, or a refusal, by a rule: it lists one tile, the entries of that pair. So it answers 1, or minus 7 where the run has fewer than two entries.
pub record PairCall {A : Type 0} (rule : Told A → Type 0) (laid : A → Tile) (before after : List ℤ) (answer : ℤ) : Type 0 where
  pub told : Told A
  pub tells : rule told
  pub lists : ListCall told.number (laid told.value ∷ []) before after answer

-- The contracts of private functions cite what follows; no promise of a call does. What an answer tells, and a row and a column that signed 32-bit entries hold, as they do those of
-- every map.
abbrev pub told_by : {A : Type 0} → A → Answer A → Told A
told_by zeros (Ok a) = accepted a
told_by zeros (Err e) = refused zeros (number_of e)

abbrev pub Signed : RowColumn → Type 0
Signed p = (p.row < 2 ^ 31) × (p.column < 2 ^ 31)
