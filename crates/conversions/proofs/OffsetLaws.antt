-- Laws of offset coordinates: the slant is half of an even number and no larger than the number that slants; no two tiles have the same pair, and every pair has a tile.
use mathlib.Core.Path.{◌≡◌, sym, ap, ap₂, ◌∙◌}
use Prim.Native.Nat.{ℕ, zero, suc, ◌≤◌}
use native.Mathlib.Omega.{arith}
use lib.IntN.{ℤ, pos, nat_abs, ◌+ℤ◌, ◌-ℤ◌, ◌*ℤ◌}
use mir.Syntax.{w32}
use mir.Val.{SFits}
use Rattle.whole.proofs.Differences.{by1, by2, by3}
use Rattle.whole.proofs.Kit.{dif, dif_b}
use Rattle.hexes.specs.Limits.{coordinate_limit}
use Rattle.hexes.specs.Tiles.{tile}
use Rattle.conversions.specs.Grid.{pair}
use Rattle.conversions.specs.Offset.{parity, slant_of, offset_of}
use Rattle.conversions.specs.declared.GridPair.{GridPair}
use Rattle.conversions.proofs.GridLaws.{Injective}

-- Nothing is left over by the halves.
pub even_exact : (z : ℤ) → pos 2 *ℤ slant_of 0 z ≡ z +ℤ parity z
unfolding slant_of
even_exact = by1 _ (simp dif (omega arith))

pub odd_exact : (z : ℤ) → pos 2 *ℤ slant_of 1 z ≡ z -ℤ parity z
unfolding slant_of
odd_exact = by1 _ (simp dif (omega arith))

-- A slant is no larger than the number.
pub slant_small : (mode : ℕ) (z : ℤ) → nat_abs (slant_of mode z) ≤ nat_abs z
unfolding slant_of
slant_small zero = by1 _ (simp dif (omega arith))
slant_small (suc mode) = by1 _ (simp dif (omega arith))

-- So it fits 32 bits as the number does, and so does a row that it shifts where the coordinates are within the limit.
pub slant_fits : (mode : ℕ) (z : ℤ) → SFits w32 z → SFits w32 (slant_of mode z)
unfolding slant_of
slant_fits zero = by1 _ (simp dif_b (omega arith))
slant_fits (suc mode) = by1 _ (simp dif_b (omega arith))

pub row_fits : (y s : ℤ) → nat_abs y ≤ coordinate_limit → nat_abs s ≤ coordinate_limit → SFits w32 (y +ℤ s)
row_fits = by2 _ (simp dif_b (omega arith))

-- No two tiles have the same pair.
cancel : (y v s : ℤ) → y +ℤ s ≡ v +ℤ s → y ≡ v
cancel = by3 _ (simp dif (omega arith))

pub offset_injective : (mode orientation : ℕ) → Injective (offset_of mode orientation)
unfolding Injective offset_of
offset_injective mode zero t u e =
    let x = ap (λ (p : GridPair). p.column) e in
    ap₂ tile x (cancel _ _ (slant_of mode t.x) (ap (λ (p : GridPair). p.row) e ∙ ap (λ (z : ℤ). u.y +ℤ slant_of mode z) (sym x)))
offset_injective mode (suc orientation) t u e =
    let y = ap (λ (p : GridPair). p.row) e in
    ap₂ tile (cancel _ _ (slant_of mode t.y) (ap (λ (p : GridPair). p.column) e ∙ ap (λ (z : ℤ). u.x +ℤ slant_of mode z) (sym y))) y

-- The tile of a pair: what the slant added is taken away again.
put_back : (y s : ℤ) → (y -ℤ s) +ℤ s ≡ y
put_back = by2 _ (simp dif (omega arith))

pub flat_tile : (mode : ℕ) (asked : GridPair) → offset_of mode 0 (tile asked.column (asked.row -ℤ slant_of mode asked.column)) ≡ asked
unfolding offset_of
flat_tile mode asked = ap (λ (r : ℤ). pair asked.column r) (put_back asked.row (slant_of mode asked.column))
