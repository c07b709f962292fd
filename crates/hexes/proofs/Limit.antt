-- Laws of the coordinate limit.
use mathlib.Core.Path.{◌≡◌, refl}
use mathlib.Core.Bool.{true, false}
use Prim.Native.Nat.{◌<◌, ◌≤◌}
use native.Mathlib.Omega.{arith}
use lib.Dec.{leb}
use lib.IntN.{nat_abs}
use mir.Syntax.{w32}
use mir.Val.{to_z, of_z}
use mir.Facts.{to_z-of_z}
use borrow.Author.Tests.{le-leb, lt-leb, leb-true}
use Rattle.whole.proofs.Machine.{small_fits}
use Rattle.hexes.specs.Limits.{coordinate_limit}
use Rattle.hexes.specs.Tiles.{within_limit}
use Rattle.hexes.specs.declared.Tile.{Tile}
use Rattle.hexes.proofs.Chains.{both, and_no}

module _ (t : Tile) where
  pub within : nat_abs t.x ≤ coordinate_limit → nat_abs t.y ≤ coordinate_limit → within_limit t ≡ true
  unfolding within_limit
  within p q = rw (le-leb (nat_abs t.x) coordinate_limit p, le-leb (nat_abs t.y) coordinate_limit q)

  pub beyond_x : coordinate_limit < nat_abs t.x → within_limit t ≡ false
  unfolding within_limit
  beyond_x p = rw (lt-leb (nat_abs t.x) coordinate_limit p)

  pub beyond_y : coordinate_limit < nat_abs t.y → within_limit t ≡ false
  unfolding within_limit
  beyond_y p = rw (lt-leb (nat_abs t.y) coordinate_limit p) (and_no (leb (nat_abs t.x) coordinate_limit) refl)

  pub within_is : within_limit t ≡ true → (nat_abs t.x ≤ coordinate_limit) × (nat_abs t.y ≤ coordinate_limit)
  unfolding within_limit
  within_is e = let p = both _ _ e in (leb-true _ _ p.0, leb-true _ _ p.1)

  -- A coordinate within the limit is read back from 32 bits.
  pub within_read : within_limit t ≡ true → (to_z w32 (of_z w32 t.x) ≡ t.x) × (to_z w32 (of_z w32 t.y) ≡ t.y)
  within_read e =
      let p = within_is e in
      (to_z-of_z (small_fits t.x (omega arith)), to_z-of_z (small_fits t.y (omega arith)))
