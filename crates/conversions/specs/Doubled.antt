-- Doubled coordinates: DoubledWidth, mode 0, is (2x + y, y); DoubledHeight, mode 1, is (x, 2y + x). In both, column and row have an even sum.
use Rattle.std.specs.Prelude.{ℕ, zero, suc, pos, ◌+ℤ◌, ◌*ℤ◌}
use Rattle.hexes.specs.Answers.{Told}
use Rattle.hexes.specs.declared.Tile.{Tile}
use Rattle.conversions.specs.Grid.{pair, known, to_grid, FromGrid}
use Rattle.conversions.specs.declared.GridPair.{GridPair}

-- The doubled coordinates of a tile, by the mode: width, then height.
unfoldable pub doubled_of : ℕ → Tile → GridPair
doubled_of zero t = pair (pos 2 *ℤ t.x +ℤ t.y) t.y
doubled_of (suc mode) t = pair t.x (pos 2 *ℤ t.y +ℤ t.x)

-- What the way there tells, and what the way back.
abbrev pub to_doubled : Tile → ℕ → Told GridPair
to_doubled t mode = to_grid t (known mode) (doubled_of mode t)

abbrev pub FromDoubled : GridPair → ℕ → Told Tile → Type 0
FromDoubled asked mode = FromGrid (known mode) (doubled_of mode) asked
