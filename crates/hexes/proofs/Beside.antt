-- The tiles at distance 1 of a tile are its six neighbours and no others.
use mathlib.Core.Path.{◌≡◌, refl, ap, ap₂, ◌∙◌}
use Prim.Native.Nat.{ℕ, zero, suc, ◌%◌, ◌<◌}
use native.Mathlib.Nat.{mod-eq_of_lt}
use native.Mathlib.Omega.{arith}
use lib.IntN.{ℤ, pos, negsuc, ◌+ℤ◌, ◌-ℤ◌}
use Rattle.whole.proofs.Differences.{by2, linear}
use Rattle.hexes.specs.Directions.{step_of}
use Rattle.hexes.specs.Tiles.{tile, span, distance_of, neighbor_of}
use Rattle.hexes.specs.declared.Step.{Step}
use Rattle.hexes.specs.declared.Tile.{Tile}

-- The direction of a pair of differences that lead one step away.
record Direction (x y : ℤ) : Type 0 where
  d : ℕ
  low : d < 6
  is_x : (step_of d).0 ≡ x
  is_y : (step_of d).1 ≡ y

direction_of : (x y : ℤ) → span x y ≡ 1 → Direction x y
unfolding span step_of
direction_of (pos zero) (pos zero) e = absurd (omega arith)
direction_of (pos zero) (pos (suc zero)) e = record { d = 5; low = omega arith; is_x = refl; is_y = refl }
direction_of (pos zero) (pos (suc (suc n))) e = absurd (omega arith)
direction_of (pos zero) (negsuc zero) e = record { d = 2; low = omega arith; is_x = refl; is_y = refl }
direction_of (pos zero) (negsuc (suc n)) e = absurd (omega arith)
direction_of (pos (suc zero)) (pos zero) e = record { d = 0; low = omega arith; is_x = refl; is_y = refl }
direction_of (pos (suc zero)) (pos (suc n)) e = absurd (omega arith)
direction_of (pos (suc zero)) (negsuc zero) e = record { d = 1; low = omega arith; is_x = refl; is_y = refl }
direction_of (pos (suc zero)) (negsuc (suc n)) e = absurd (omega arith)
direction_of (pos (suc (suc m))) y e = absurd (omega arith)
direction_of (negsuc zero) (pos zero) e = record { d = 3; low = omega arith; is_x = refl; is_y = refl }
direction_of (negsuc zero) (pos (suc zero)) e = record { d = 4; low = omega arith; is_x = refl; is_y = refl }
direction_of (negsuc zero) (pos (suc (suc n))) e = absurd (omega arith)
direction_of (negsuc zero) (negsuc n) e = absurd (omega arith)
direction_of (negsuc (suc m)) y e = absurd (omega arith)

pub record Leads (a b : Tile) : Type 0 where
  pub d : ℕ
  pub low : d < 6
  pub to : neighbor_of a d ≡ b

arrived : (x y : ℤ) → x +ℤ (y -ℤ x) ≡ y
arrived = by2 _ (simp linear (omega arith))

pub one_apart : (a b : Tile) → distance_of a b ≡ 1 → Leads a b
unfolding distance_of neighbor_of
one_apart a b e =
    let w = direction_of (b.x -ℤ a.x) (b.y -ℤ a.y) e in
    record {
      d = w.d;
      low = w.low;
      to = ap₂ tile (ap (λ (s : ℤ). a.x +ℤ s) w.is_x ∙ arrived a.x b.x) (ap (λ (s : ℤ). a.y +ℤ s) w.is_y ∙ arrived a.y b.y);
    }

-- A direction number counts modulo 6.
pub six_steps : (d : ℕ) → step_of (d % 6) ≡ step_of d
unfolding step_of
six_steps d = rw (mod-eq_of_lt {n = d % 6} {m = 6} (omega arith))

pub six_neighbors : (t : Tile) (d : ℕ) → neighbor_of t (d % 6) ≡ neighbor_of t d
unfolding neighbor_of
six_neighbors t d = ap (λ (s : Step). tile (t.x +ℤ s.0) (t.y +ℤ s.1)) (six_steps d)
