-- y + s x as the machine reckons it, where x and y are of at most some size: what is read back of the product and of the sum, and that both fit.
use mathlib.Core.Path.{◌≡◌}
use Prim.Native.Nat.{ℕ, ◌+◌, ◌*◌, ◌^◌, ◌<◌, ◌≤◌}
use native.Mathlib.Nat.{mul-le-mul_left}
use native.Mathlib.Omega.{arith}
use lib.IntN.{ℤ, pos, nat_abs, ◌+ℤ◌, ◌*ℤ◌}
use mir.Syntax.{Width}
use mir.Val.{SFits, to_z, of_z, hbits}
use mir.Facts.{to_z-of_z, to_z_pos}
use Rattle.std.proofs.lemmas.Int.{unsigned_abs-mul, fits_signed_from_abs}
use Rattle.whole.proofs.Differences.{by2}
use Rattle.whole.proofs.Kit.{dif_b}

pub times : (s m : ℕ) (x : ℤ) → nat_abs x ≤ m → nat_abs (pos s *ℤ x) ≤ s * m
times s m x h = omega (arith, unsigned_abs-mul (pos s) x, mul-le-mul_left s h)

pub sum_size : (m n : ℕ) (y p : ℤ) → nat_abs y ≤ m → nat_abs p ≤ n → nat_abs (y +ℤ p) ≤ m + n
sum_size m n = by2 _ (simp dif_b (omega arith))

module _ (w : Width) (s m : ℕ) (x y : ℤ) (shift : s < 2 ^ hbits w) (room : m + s * m < 2 ^ hbits w) (lx : nat_abs x ≤ m) (ly : nat_abs y ≤ m) where
  factors : to_z w s *ℤ to_z w (of_z w x) ≡ pos s *ℤ x
  factors = rw (to_z_pos w shift, to_z-of_z (fits_signed_from_abs w x (omega arith)))

  pub product_fits : SFits w (to_z w s *ℤ to_z w (of_z w x))
  product_fits = rw factors (fits_signed_from_abs w (pos s *ℤ x) (omega (arith, times s m x lx)))

  pub parts : to_z w (of_z w y) +ℤ to_z w (of_z w (to_z w s *ℤ to_z w (of_z w x))) ≡ y +ℤ pos s *ℤ x
  parts = rw (to_z-of_z (fits_signed_from_abs w y (omega arith)), to_z-of_z product_fits, factors)

  pub sum_fits : SFits w (to_z w (of_z w y) +ℤ to_z w (of_z w (to_z w s *ℤ to_z w (of_z w x))))
  sum_fits = rw parts (fits_signed_from_abs w (y +ℤ pos s *ℤ x) (omega (arith, sum_size m (s * m) y (pos s *ℤ x) ly (times s m x lx))))
