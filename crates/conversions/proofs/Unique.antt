-- Each public call's promise leaves one answer: two answers that meet it are equal.
use mathlib.Core.Path.{◌≡◌}
use mathlib.Core.Bool.{◌&&◌}
use Prim.Native.Nat.{ℕ}
use Rattle.hexes.specs.Answers.{Answer, TileTells}
use Rattle.hexes.specs.declared.Tile.{Tile}
use Rattle.hexes.proofs.Tells.{one_value, tile_tells_one}
use Rattle.conversions.specs.Grid.{GridTells, known}
use Rattle.conversions.specs.Offset.{offset_of, to_offset, FromOffset}
use Rattle.conversions.specs.Doubled.{doubled_of, to_doubled, FromDoubled}
use Rattle.conversions.specs.declared.GridPair.{GridPair}
use Rattle.conversions.proofs.GridLaws.{from_grid_one, grid_tells_one}
use Rattle.conversions.proofs.OffsetLaws.{offset_injective}
use Rattle.conversions.proofs.DoubledLaws.{doubled_injective}

pub to_offset_unique : (t : Tile) (mode orientation : ℕ) (r s : Answer GridPair) → GridTells r (λ told. told ≡ to_offset t mode orientation) → GridTells s (λ told. told ≡ to_offset t mode orientation) → r ≡ s
to_offset_unique t mode orientation r s = grid_tells_one _ (one_value (to_offset t mode orientation)) r s

pub from_offset_unique : (asked : GridPair) (mode orientation : ℕ) (r s : Answer Tile) → TileTells r (FromOffset asked mode orientation) → TileTells s (FromOffset asked mode orientation) → r ≡ s
from_offset_unique asked mode orientation r s =
    tile_tells_one _ (from_grid_one (known mode && known orientation) (offset_of mode orientation) asked (offset_injective mode orientation)) r s

pub to_doubled_unique : (t : Tile) (mode : ℕ) (r s : Answer GridPair) → GridTells r (λ told. told ≡ to_doubled t mode) → GridTells s (λ told. told ≡ to_doubled t mode) → r ≡ s
to_doubled_unique t mode r s = grid_tells_one _ (one_value (to_doubled t mode)) r s

pub from_doubled_unique : (asked : GridPair) (mode : ℕ) (r s : Answer Tile) → TileTells r (FromDoubled asked mode) → TileTells s (FromDoubled asked mode) → r ≡ s
from_doubled_unique asked mode r s = tile_tells_one _ (from_grid_one (known mode) (doubled_of mode) asked (doubled_injective mode)) r s
