-- What was made of the arguments of a call for C is what they say.
use mathlib.Core.Path.{◌≡◌, ap₂}
use Prim.Native.Nat.{ℕ}
use lib.IntN.{ℤ}
use mir.Syntax.{w32}
use mir.Val.{SFits, to_z, of_z}
use mir.Facts.{to_z-of_z}
use Rattle.hexes.specs.Tiles.{tile}
use Rattle.firmware.specs.Calls.{map_at}

-- A tile and a map whose coordinates are read back from 32 bits.
pub read_tile : {x y : ℤ} → SFits w32 x → SFits w32 y → tile (to_z w32 (of_z w32 x)) (to_z w32 (of_z w32 y)) ≡ tile x y
read_tile p q = ap₂ tile (to_z-of_z p) (to_z-of_z q)

pub read_map : {x y : ℤ} (radius : ℕ) → SFits w32 x → SFits w32 y → map_at (to_z w32 (of_z w32 x)) (to_z w32 (of_z w32 y)) radius ≡ map_at x y radius
read_map radius p q = ap₂ (λ (x y : ℤ). map_at x y radius) (to_z-of_z p) (to_z-of_z q)
