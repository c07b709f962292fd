-- Each public call's promise leaves one answer: two answers that meet it are equal.
use mathlib.Core.Path.{◌≡◌, sym, ◌∙◌}
use Prim.Native.Nat.{ℕ}
use lib.IntN.{ℤ, nat_abs, ◌+ℤ◌, ◌-ℤ◌}
use Rattle.whole.specs.Euclid.{quotient, remainder}

pub sum_unique : (a b : ℤ) {r s : ℤ} → r ≡ a +ℤ b → s ≡ a +ℤ b → r ≡ s
sum_unique a b p q = p ∙ sym q

pub difference_unique : (a b : ℤ) {r s : ℤ} → r ≡ a -ℤ b → s ≡ a -ℤ b → r ≡ s
difference_unique a b p q = p ∙ sym q

pub absolute_unique : (z : ℤ) {r s : ℕ} → r ≡ nat_abs z → s ≡ nat_abs z → r ≡ s
absolute_unique z p q = p ∙ sym q

pub half_unique : (z : ℤ) {r s : ℤ} → r ≡ quotient z 2 → s ≡ quotient z 2 → r ≡ s
half_unique z p q = p ∙ sym q

pub wrapped_unique : (z : ℤ) (m : ℕ) {r s : ℕ} → r ≡ remainder z m → s ≡ remainder z m → r ≡ s
wrapped_unique z m p q = p ∙ sym q
