-- What this crate's private functions answer. No public promise cites this file.
use Rattle.std.specs.Prelude.{◌≡◌, Bool, true, false, ◌&&◌, ℕ, zero, suc, Ok, Err}
use Rattle.hexes.specs.Answers.{Answer}
use Rattle.hexes.specs.Refusals.{number_of}
use Rattle.hexes.specs.Tiles.{tile, within_limit}
use Rattle.hexes.specs.declared.Tile.{Tile}
use Rattle.hexes.specs.declared.refusal.Refusal.{Refusal}
use Rattle.conversions.specs.Grid.{known, pair, refused_pair, to_grid}
use Rattle.conversions.specs.declared.GridPair.{GridPair}
use Rattle.conversions.specs.declared.exchanged.Axes.{Axes}

-- The two coordinates exchanged.
abbrev pub exchanged_tile : Tile → Tile
exchanged_tile t = tile t.y t.x

abbrev pub exchanged_pair : GridPair → GridPair
exchanged_pair p = pair p.row p.column

-- The two coordinates by the axes.
abbrev pub tile_by : Axes → Tile → Tile
tile_by Axes.Kept t = t
tile_by Axes.Exchanged t = exchanged_tile t

abbrev pub pair_by : Axes → GridPair → GridPair
pair_by Axes.Kept p = p
pair_by Axes.Exchanged p = exchanged_pair p

-- The axes that a number chooses.
abbrev pub axes_of : ℕ → Axes
axes_of zero = Axes.Kept
axes_of (suc number) = Axes.Exchanged

-- What a number that chooses gives: a value where the number is known, else refusal 3.
abbrev pub Chosen : {A : Type 0} → ℕ → A → Answer A → Type 0
Chosen number value (Ok a) = (known number ≡ true) × (a ≡ value)
Chosen number value (Err e) = (known number ≡ false) × (e ≡ Refusal.UnknownNumber)

-- What `judged` answers. Its refusal is that of the way there, whatever else chooses the conversion and whatever the pair.
abbrev pub JudgedAs : Tile → ℕ → Answer Axes → Type 0
JudgedAs t number (Ok axes) = (within_limit t ≡ true) × (known number ≡ true) × (axes ≡ axes_of number)
JudgedAs t number (Err e) = (chosen : Bool) (p : GridPair) → refused_pair (number_of e) ≡ to_grid t (chosen && known number) p
