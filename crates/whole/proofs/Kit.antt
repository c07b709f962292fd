-- The rules by which facts of whole numbers are proved, in three forms.
--
-- A closed statement over up to six unknown whole numbers is one line, ring identities included:
--
--     step : (x y z : ℤ) → x ≡ y -ℤ pos 1 → y ≤ℤ negsuc 4 → (x +ℤ z) ≤ℤ (z -ℤ pos 6)
--     step = by3 _ (simp dif (omega arith))
--
-- `dif` reads a size |x| as a sum of two cut-off differences, each of which makes `omega` split in two, and it splits six ways at most: where a size is only
-- bounded, `dif_b` reads the bound and splits nothing. `dif_k` adds quotients and remainders by a numeral other than 2. Inside a longer proof, where facts
-- are at hand and unknowns are not to be replaced, `omega zr` reads the orders, equations and tests of whole numbers among them.
use mathlib.Core.Path.{◌≡◌}
use mathlib.Core.Bool.{true, false}
use Prim.Native.Nat.{◌+◌, ◌<◌, ◌≤◌}
use native.Mathlib.Omega.{arith}
use lib.IntN.{ℤ, neg_ℤ, ◌+ℤ◌, ◌-ℤ◌}
use lib.Signed.{lt_z, le_z}
use Rattle.whole.proofs.Differences.{up, down, linear, machine, d_mul, d_abs, d_abs_le, d_abs_lt, eq_to, eq_of, le_to, le_of, lt_to, lt_of, le_z_to, le_z_of, lt_z_to, lt_z_of, add_is, neg_is, true_t, false_not}
use Rattle.whole.proofs.Euclid.{shift_halves, d_half, d_parity, d_quotient, d_remainder}

-- What all three have.
pub ruleset common = (shift_halves, d_mul, machine, d_half, d_parity, linear)

pub ruleset dif = (common, d_abs)

pub ruleset dif_b = (common, d_abs_le, d_abs_lt)

pub ruleset dif_k = (d_quotient, d_remainder)

-- For `omega zr`. The first rule that fits a hypothesis is taken, so the shapes with an operation stand first.
pub eq_sub : (r a b : ℤ) → r ≡ a -ℤ b → up r + (down a + up b) ≡ up a + down b + down r
eq_sub r a b h = omega (arith, eq_to h, add_is a (neg_ℤ b), neg_is b)

pub eq_add : (r a b : ℤ) → r ≡ a +ℤ b → up r + (down a + down b) ≡ up a + up b + down r
eq_add r a b h = omega (arith, eq_to h, add_is a b)

pub eq_neg : (r a : ℤ) → r ≡ neg_ℤ a → up r + up a ≡ down a + down r
eq_neg r a h = omega (arith, eq_to h, neg_is a)

pub lt_z_yes : (x y : ℤ) → lt_z x y ≡ true → up x + down y < up y + down x
lt_z_yes x y e = lt_z_to x y (true_t e)

pub lt_z_no : (x y : ℤ) → lt_z x y ≡ false → up y + down x ≤ up x + down y
lt_z_no x y e = let f : ¬ (up x + down y < up y + down x) = λ k. false_not e (lt_z_of x y k) in omega arith

pub le_z_yes : (x y : ℤ) → le_z x y ≡ true → up x + down y ≤ up y + down x
le_z_yes x y e = le_z_to x y (true_t e)

pub le_z_no : (x y : ℤ) → le_z x y ≡ false → up y + down x < up x + down y
le_z_no x y e = let f : ¬ (up x + down y ≤ up y + down x) = λ k. false_not e (le_z_of x y k) in omega arith

pub ruleset zr = (arith, lt_z_yes, lt_z_no, le_z_yes, le_z_no, eq_sub, eq_add, eq_neg, le_to, lt_to, eq_to, le_of, lt_of, eq_of)
