-- Offset coordinates. Let p be 1 for an odd number, also a negative one, else 0.
-- Flat: (x, y + (x + p) / 2) in mode Even, (x, y + (x - p) / 2) in mode Odd, p from x. Pointy: the same added to x, p from y.
-- Even is mode 0 and Odd mode 1; Flat is orientation 0 and Pointy orientation 1.
use Rattle.std.specs.Prelude.{◌&&◌, ℕ, zero, suc, ℤ, pos, ◌+ℤ◌, ◌-ℤ◌}
use Rattle.whole.specs.Euclid.{quotient, remainder}
use Rattle.hexes.specs.Answers.{Told}
use Rattle.hexes.specs.declared.Tile.{Tile}
use Rattle.conversions.specs.Grid.{pair, known, to_grid, FromGrid}
use Rattle.conversions.specs.declared.GridPair.{GridPair}

abbrev pub parity : ℤ → ℤ
parity z = pos (remainder z 2)

-- The half that is added, by the mode: Even, then Odd.
unfoldable pub slant_of : ℕ → ℤ → ℤ
slant_of zero z = quotient (z +ℤ parity z) 2
slant_of (suc mode) z = quotient (z -ℤ parity z) 2

-- The offset coordinates of a tile, by mode and orientation: Flat, then Pointy.
unfoldable pub offset_of : ℕ → ℕ → Tile → GridPair
offset_of mode zero t = pair t.x (t.y +ℤ slant_of mode t.x)
offset_of mode (suc orientation) t = pair (t.x +ℤ slant_of mode t.y) t.y

-- What the way there tells, and what the way back.
abbrev pub to_offset : Tile → ℕ → ℕ → Told GridPair
to_offset t mode orientation = to_grid t (known mode && known orientation) (offset_of mode orientation t)

abbrev pub FromOffset : GridPair → ℕ → ℕ → Told Tile → Type 0
FromOffset asked mode orientation = FromGrid (known mode && known orientation) (offset_of mode orientation) asked
