-- What the quotient and the remainder of `specs/Euclid` are: the only two numbers with z = k · quotient + remainder and remainder < k; the shift that copies
-- the sign is such a quotient; a remainder does not change by whole turns; and the rules by which `Kit` reads both.
use mathlib.Core.Path.{◌≡◌, refl, sym, ap, subst}
use mathlib.Core.Bool.{true}
use Prim.Native.Nat.{ℕ, zero, suc, ◌+◌, ◌*◌, ◌-◌, ◌/◌, ◌%◌, ◌<◌}
use native.Mathlib.Nat.{div-add-mod, mod-lt}
use native.Mathlib.Omega.{arith}
use lib.Dec.{T, ltb, ltb→lt}
use lib.IntN.{ℤ, pos, negsuc, ◌+ℤ◌, ◌-ℤ◌, ◌*ℤ◌}
use lib.Signed.{shr_z}
use Rattle.whole.specs.Euclid.{quotient, remainder}
use Rattle.whole.proofs.Differences.{◌⊝◌, by2, by3, linear, d_mul}

-- z is k times its quotient and its remainder more, and the remainder is below k.
pub euclid : (z : ℤ) (k : ℕ) → 0 < k → pos k *ℤ quotient z k +ℤ pos (remainder z k) ≡ z
unfolding quotient remainder
euclid z zero h = absurd (omega arith)
euclid (pos a) (suc k) h = ap pos (div-add-mod a (suc k))
euclid (negsuc a) (suc k) h = simp linear (omega (arith, div-add-mod a (suc k), mod-lt a h))

pub remainder_below : (z : ℤ) (k : ℕ) → 0 < k → remainder z k < k
unfolding remainder
remainder_below z zero h = absurd (omega arith)
remainder_below (pos a) (suc k) h = mod-lt a h
remainder_below (negsuc a) (suc k) h = omega arith

-- The remainder at a natural number, and at a negative one.
pub remainder_natural : (z : ℤ) (n k : ℕ) → z ≡ pos n → (k ≡ 0 → ⊥) → n % k ≡ remainder z k
unfolding remainder
remainder_natural z n zero e h = absurd (h refl)
remainder_natural z n (suc k) e h = rw e

pub remainder_negative : (z : ℤ) (n k : ℕ) → z ≡ negsuc n → (k ≡ 0 → ⊥) → k - 1 - n % k ≡ remainder z k
unfolding remainder
remainder_negative z n zero e h = absurd (h refl)
remainder_negative z n (suc k) e h = rw e (omega arith)

pub remainder_by_zero : (z : ℤ) (k : ℕ) → k ≡ 0 → ◌≡◌ {A = ℕ} 0 (remainder z k)
unfolding remainder
remainder_by_zero z k e = rw e

-- No other two numbers are so: the difference of two quotients is 0, since k times it lies between -k and k.
no_turn : (k : ℕ) (d : ℤ) (r s : ℕ) → r < k → s < k → pos k *ℤ d +ℤ pos r ≡ pos s → (d ≡ pos 0) × (r ≡ s)
no_turn k (pos zero) r s h l e = (refl, omega (arith, simp linear at e))
no_turn k (pos (suc t)) r s h l e = absurd (omega (arith, simp linear at e))
no_turn k (negsuc t) r s h l e = absurd (omega (arith, simp linear at e))

subtracted : (k r s : ℕ) (z q e : ℤ) → pos k *ℤ q +ℤ pos r ≡ z → pos k *ℤ e +ℤ pos s ≡ z → pos k *ℤ (q -ℤ e) +ℤ pos r ≡ pos s
subtracted k r s = by3 _ (simp (linear, d_mul) (omega arith))

same_of_zero : (x y : ℤ) → x -ℤ y ≡ pos 0 → x ≡ y
same_of_zero = by2 _ (simp linear (omega arith))

pub euclid_only : (z : ℤ) (k : ℕ) (q : ℤ) (r : ℕ) → r < k → pos k *ℤ q +ℤ pos r ≡ z → (quotient z k ≡ q) × (remainder z k ≡ r)
euclid_only z k q r h e =
    let p : 0 < k = omega arith in
    let u = no_turn k (quotient z k -ℤ q) (remainder z k) r (remainder_below z k p) h (subtracted k (remainder z k) r z (quotient z k) q (euclid z k p) e) in
    (same_of_zero _ _ u.0, u.1)

-- A remainder does not change by whole turns.
turned : (k r : ℕ) (z q t : ℤ) → pos k *ℤ q +ℤ pos r ≡ z → pos k *ℤ (q +ℤ t) +ℤ pos r ≡ z +ℤ pos k *ℤ t
turned k r = by3 _ (simp (linear, d_mul) (omega arith))

pub remainder_turn : (z : ℤ) (k : ℕ) (t : ℤ) → 0 < k → remainder (z +ℤ pos k *ℤ t) k ≡ remainder z k
remainder_turn z k t p =
    (euclid_only (z +ℤ pos k *ℤ t) k (quotient z k +ℤ t) (remainder z k) (remainder_below z k p) (turned k (remainder z k) z (quotient z k) t (euclid z k p))).1

-- The machine's shift to the right by one, which copies the sign, halves and rounds down.
pub shift_halves : (z : ℤ) → shr_z z 2 ≡ quotient z 2
unfolding quotient
shift_halves (pos a) = refl
shift_halves (negsuc a) = refl

-- The rules at halves, and at any divisor that is a numeral above 0.
parts_of : (k n a b : ℕ) → 0 < k → n ≡ a + (k - 1) * b → (quotient (a ⊝ b) k ≡ (n / k) ⊝ b) × (remainder (a ⊝ b) k ≡ n % k)
parts_of zero n a b p e = absurd (omega arith)
parts_of (suc k) n a b p e =
    euclid_only (a ⊝ b) (suc k) ((n / suc k) ⊝ b) (n % suc k) (mod-lt n p)
    (simp (linear, d_mul) (omega (arith, div-add-mod n (suc k), rw (one_less k) at e)))
  where
    one_less : (k : ℕ) → suc k - 1 ≡ k
    one_less k = omega arith

above_zero : (k : ℕ) → ltb 0 k ≡ true → 0 < k
above_zero k e = ltb→lt 0 k (subst T (sym e) tt)

pub d_quotient : (a b k : ℕ) → ltb 0 k ≡ true → quotient (a ⊝ b) k ≡ ((a + (k - 1) * b) / k) ⊝ b
d_quotient a b k e = (parts_of k (a + (k - 1) * b) a b (above_zero k e) refl).0

pub d_remainder : (a b k : ℕ) → ltb 0 k ≡ true → remainder (a ⊝ b) k ≡ (a + (k - 1) * b) % k
d_remainder a b k e = (parts_of k (a + (k - 1) * b) a b (above_zero k e) refl).1

pub d_half : (a b : ℕ) → quotient (a ⊝ b) 2 ≡ ((a + b) / 2) ⊝ b
d_half a b = (parts_of 2 (a + b) a b (omega arith) (omega arith)).0

pub d_parity : (a b : ℕ) → remainder (a ⊝ b) 2 ≡ (a + b) % 2
d_parity a b = (parts_of 2 (a + b) a b (omega arith) (omega arith)).1
