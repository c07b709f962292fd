-- Laws of doubled coordinates: no two tiles have the same pair, an odd pair has no tile, and an even one has the tile that its half gives.
use mathlib.Core.Path.{◌≡◌, sym, ap, ap₂, ◌∙◌}
use Prim.Native.Nat.{ℕ, zero, suc, ◌≤◌}
use native.Mathlib.Omega.{arith}
use lib.IntN.{ℤ, pos, nat_abs, ◌+ℤ◌, ◌-ℤ◌, ◌*ℤ◌}
use mir.Syntax.{w32}
use mir.Val.{SFits}
use Rattle.whole.specs.Euclid.{quotient, remainder}
use Rattle.whole.proofs.Differences.{by1, by2, by3, by4}
use Rattle.whole.proofs.Euclid.{remainder_below}
use Rattle.whole.proofs.Kit.{dif, dif_b}
use Rattle.hexes.specs.Limits.{coordinate_limit}
use Rattle.hexes.specs.Tiles.{tile}
use Rattle.hexes.specs.declared.Tile.{Tile}
use Rattle.conversions.specs.Grid.{pair}
use Rattle.conversions.specs.Doubled.{doubled_of}
use Rattle.conversions.specs.declared.GridPair.{GridPair}
use Rattle.conversions.proofs.GridLaws.{Injective}

-- A coordinate that doubles is found from the sum and the other one.
halved_same : (x u y v : ℤ) → pos 2 *ℤ x +ℤ y ≡ pos 2 *ℤ u +ℤ v → y ≡ v → x ≡ u
halved_same = by4 _ (simp dif (omega arith))

-- The column of a tile within the limit fits 32 bits, and so does what it is made of.
pub column_fits : (x y : ℤ) → nat_abs x ≤ coordinate_limit → nat_abs y ≤ coordinate_limit → SFits w32 (pos 2 *ℤ x) × SFits w32 (pos 2 *ℤ x +ℤ y)
column_fits = by2 _ (simp dif_b (omega arith))

pub doubled_injective : (mode : ℕ) → Injective (doubled_of mode)
unfolding Injective doubled_of
doubled_injective zero t u e =
    let y = ap (λ (p : GridPair). p.row) e in
    ap₂ tile (halved_same _ _ _ _ (ap (λ (p : GridPair). p.column) e) y) y
doubled_injective (suc mode) t u e =
    let x = ap (λ (p : GridPair). p.column) e in
    ap₂ tile x (halved_same _ _ _ _ (ap (λ (p : GridPair). p.row) e) x)

-- Where the gap between column and row is twice a number, that number is the tile's x; where it is odd, no tile has the pair.
gap_doubled : (x c r : ℤ) → c -ℤ r ≡ pos 2 *ℤ x → pos 2 *ℤ x +ℤ r ≡ c
gap_doubled = by3 _ (simp dif (omega arith))

gap_even : (x c r : ℤ) → remainder (c -ℤ r) 2 ≡ 1 → pos 2 *ℤ x +ℤ r ≡ c → ⊥
gap_even = by3 _ (simp dif (λ a b c d e f h k. omega arith))

halves : (g : ℤ) → remainder g 2 ≡ 0 → g ≡ pos 2 *ℤ quotient g 2
halves = by1 _ (simp dif (omega arith))

-- A remainder by 2 is 0 or 1.
pub odd_of : (g : ℤ) → (remainder g 2 ≡ 0 → ⊥) → remainder g 2 ≡ 1
odd_of g f = let l = remainder_below g 2 (omega arith) in omega arith

pub width_tile : (asked : GridPair) → remainder (asked.column -ℤ asked.row) 2 ≡ 0 → doubled_of 0 (tile (quotient (asked.column -ℤ asked.row) 2) asked.row) ≡ asked
unfolding doubled_of
width_tile asked even = ap (λ (c : ℤ). pair c asked.row) (gap_doubled (quotient (asked.column -ℤ asked.row) 2) asked.column asked.row (halves (asked.column -ℤ asked.row) even))

pub width_none : (asked : GridPair) → remainder (asked.column -ℤ asked.row) 2 ≡ 1 → (t : Tile) → doubled_of 0 t ≡ asked → ⊥
unfolding doubled_of
width_none asked odd t h =
    gap_even t.x asked.column asked.row odd (ap (λ (r : ℤ). pos 2 *ℤ t.x +ℤ r) (sym (ap (λ (g : GridPair). g.row) h)) ∙ ap (λ (g : GridPair). g.column) h)
