-- Every whole number is a difference of two naturals, and what is asked of whole numbers is then asked of naturals, which `omega` proves.
-- `p ⊝ n` is p - n as a whole number. `by1` to `by6` replace one to six unknown whole numbers by such differences; the rules of this file,
-- gathered in `Kit`, then turn sums, products, orders, sizes and a width's range into naturals. A product of differences is multiplied out, so ring
-- identities are proved the same way.
use mathlib.Core.Path.{◌≡◌, refl, sym, ap, subst}
use mathlib.Core.Bool.{Bool, true, false, not, cond}
use mathlib.Core.Logic.{◌↔◌}
use Prim.Native.Nat.{ℕ, zero, suc, ◌+◌, ◌*◌, ◌-◌, ◌^◌, ◌<◌, ◌≤◌}
use native.Mathlib.Omega.{arith}
use lib.Dec.{T, ltb, ltb→lt, nltb→le, leb→le, le→leb, lt→ltb}
use lib.IntN.{ℤ, pos, negsuc, neg_ℤ, nat_abs, sub_ℕ, ◌+ℤ◌, ◌*ℤ◌}
use lib.Signed.{non_neg, lt_z, le_z, ◌≤ℤ◌, ◌<ℤ◌}
use mir.Syntax.{Width}
use mir.Val.{SFits, Fits, bits, hbits}

-- The parts of a whole number: z is up z - down z, and one of the two is 0.
abbrev pub up : ℤ → ℕ
up (pos n) = n
up (negsuc n) = zero

abbrev pub down : ℤ → ℕ
down (pos n) = zero
down (negsuc n) = suc n

-- Equations and orders are those of the parts.
pub eq_of : (x y : ℤ) → up x + down y ≡ up y + down x → x ≡ y
eq_of (pos a) (pos b) h = ap pos (omega arith)
eq_of (pos a) (negsuc b) h = absurd (omega arith)
eq_of (negsuc a) (pos b) h = absurd (omega arith)
eq_of (negsuc a) (negsuc b) h = ap negsuc (omega arith)

pub eq_to : {x y : ℤ} → x ≡ y → up x + down y ≡ up y + down x
eq_to {x} {y} e = subst (λ (v : ℤ). up x + down v ≡ up v + down x) e refl

pub le_z_of : (x y : ℤ) → up x + down y ≤ up y + down x → T (le_z x y)
le_z_of (pos a) (pos b) h = le→leb a b (omega arith)
le_z_of (pos a) (negsuc b) h = absurd (omega arith)
le_z_of (negsuc a) (pos b) h = tt
le_z_of (negsuc a) (negsuc b) h = le→leb b a (omega arith)

pub le_z_to : (x y : ℤ) → T (le_z x y) → up x + down y ≤ up y + down x
le_z_to (pos a) (pos b) h = omega (arith, leb→le a b h)
le_z_to (pos a) (negsuc b) h = absurd h
le_z_to (negsuc a) (pos b) h = omega arith
le_z_to (negsuc a) (negsuc b) h = omega (arith, leb→le b a h)

pub lt_z_of : (x y : ℤ) → up x + down y < up y + down x → T (lt_z x y)
lt_z_of (pos a) (pos b) h = lt→ltb a b (omega arith)
lt_z_of (pos a) (negsuc b) h = absurd (omega arith)
lt_z_of (negsuc a) (pos b) h = tt
lt_z_of (negsuc a) (negsuc b) h = lt→ltb b a (omega arith)

pub lt_z_to : (x y : ℤ) → T (lt_z x y) → up x + down y < up y + down x
lt_z_to (pos a) (pos b) h = omega (arith, ltb→lt a b h)
lt_z_to (pos a) (negsuc b) h = absurd h
lt_z_to (negsuc a) (pos b) h = omega arith
lt_z_to (negsuc a) (negsuc b) h = omega (arith, ltb→lt b a h)

pub le_of : (x y : ℤ) → up x + down y ≤ up y + down x → x ≤ℤ y
le_of x y h = record { le = le_z_of x y h }

pub le_to : {x y : ℤ} → x ≤ℤ y → up x + down y ≤ up y + down x
le_to {x} {y} h = le_z_to x y h.le

pub lt_of : (x y : ℤ) → up x + down y < up y + down x → x <ℤ y
lt_of x y h = record { lt = lt_z_of x y h }

pub lt_to : {x y : ℤ} → x <ℤ y → up x + down y < up y + down x
lt_to {x} {y} h = lt_z_to x y h.lt

-- The parts of a difference, of a sum and of an opposite number.
by_test : (c : Bool) (x y : ℤ) (Q : ℤ → Type 0) → (T c → Q x) → (T (not c) → Q y) → Q (cond c x y)
by_test true x y Q f g = f tt
by_test false x y Q f g = g tt

sub_is : (a b : ℕ) → up (sub_ℕ a b) + b ≡ a + down (sub_ℕ a b)
sub_is a b = by_test (ltb a b) (negsuc (b - suc a)) (pos (a - b)) (λ z. up z + b ≡ a + down z)
    (λ t. omega (arith, ltb→lt a b t)) (λ t. omega (arith, nltb→le a b t))

pub add_is : (x y : ℤ) → up (x +ℤ y) + (down x + down y) ≡ (up x + up y) + down (x +ℤ y)
add_is (pos a) (pos b) = omega arith
add_is (pos a) (negsuc b) = omega (arith, sub_is a (suc b))
add_is (negsuc a) (pos b) = omega (arith, sub_is b (suc a))
add_is (negsuc a) (negsuc b) = omega arith

pub neg_is : (x : ℤ) → (up (neg_ℤ x) ≡ down x) × (down (neg_ℤ x) ≡ up x)
neg_is (pos zero) = (refl, refl)
neg_is (pos (suc a)) = (refl, refl)
neg_is (negsuc a) = (refl, refl)

-- The difference of two naturals, as a whole number. It stays shut, so that the rules below see it.
infixl 6 ◌⊝◌
pub ◌⊝◌ : ℕ → ℕ → ℤ
a ⊝ b = sub_ℕ a b

dif_is : (a b : ℕ) → up (a ⊝ b) + b ≡ a + down (a ⊝ b)
unfolding ◌⊝◌
dif_is a b = sub_is a b

dif_at : (z : ℤ) → up z ⊝ down z ≡ z
dif_at z = eq_of (up z ⊝ down z) z (omega (arith, dif_is (up z) (down z)))

-- What holds of all differences holds of all whole numbers.
pub by1 : (Q : ℤ → Type 0) → ((a b : ℕ) → Q (a ⊝ b)) → (x : ℤ) → Q x
by1 Q f x = subst Q (dif_at x) (f (up x) (down x))

pub by2 : (Q : ℤ → ℤ → Type 0) → ((a b c d : ℕ) → Q (a ⊝ b) (c ⊝ d)) → (x y : ℤ) → Q x y
by2 Q f x y = by1 (λ x. Q x y) (λ a b. by1 (λ y. Q (a ⊝ b) y) (λ c d. f a b c d) y) x

pub by3 : (Q : ℤ → ℤ → ℤ → Type 0) → ((a b c d e f : ℕ) → Q (a ⊝ b) (c ⊝ d) (e ⊝ f)) → (x y z : ℤ) → Q x y z
by3 Q f x y z = by2 (λ x y. Q x y z) (λ a b c d. by1 (λ z. Q (a ⊝ b) (c ⊝ d) z) (λ e g. f a b c d e g) z) x y

pub by4 : (Q : ℤ → ℤ → ℤ → ℤ → Type 0) → ((a b c d e f g h : ℕ) → Q (a ⊝ b) (c ⊝ d) (e ⊝ f) (g ⊝ h)) → (x y z u : ℤ) → Q x y z u
by4 Q f x y z u = by2 (λ x y. Q x y z u) (λ a b c d. by2 (λ z u. Q (a ⊝ b) (c ⊝ d) z u) (λ e g h i. f a b c d e g h i) z u) x y

pub by5 : (Q : ℤ → ℤ → ℤ → ℤ → ℤ → Type 0) → ((a b c d e f g h i j : ℕ) → Q (a ⊝ b) (c ⊝ d) (e ⊝ f) (g ⊝ h) (i ⊝ j)) → (x y z u v : ℤ) → Q x y z u v
by5 Q f x y z u v = by2 (λ x y. Q x y z u v) (λ a b c d. by3 (λ z u v. Q (a ⊝ b) (c ⊝ d) z u v) (λ e g h i j k. f a b c d e g h i j k) z u v) x y

pub by6 : (Q : ℤ → ℤ → ℤ → ℤ → ℤ → ℤ → Type 0) → ((a b c d e f g h i j k l : ℕ) → Q (a ⊝ b) (c ⊝ d) (e ⊝ f) (g ⊝ h) (i ⊝ j) (k ⊝ l)) → (x y z u v w : ℤ) → Q x y z u v w
by6 Q f x y z u v w = by3 (λ x y z. Q x y z u v w) (λ a b c d e g. by3 (λ u v w. Q (a ⊝ b) (c ⊝ d) (e ⊝ g) u v w) (λ h i j k l m. f a b c d e g h i j k l m) u v w) x y z

-- The rules: numerals, sums, opposites, orders and equations.
pub d_pos : (k : ℕ) → pos k ≡ k ⊝ 0
d_pos k = eq_of (pos k) (k ⊝ 0) (omega (arith, dif_is k 0))

pub d_negsuc : (k : ℕ) → negsuc k ≡ 0 ⊝ suc k
d_negsuc k = eq_of (negsuc k) (0 ⊝ suc k) (omega (arith, dif_is 0 (suc k)))

pub d_add : (a b c d : ℕ) → (a ⊝ b) +ℤ (c ⊝ d) ≡ (a + c) ⊝ (b + d)
d_add a b c d = eq_of ((a ⊝ b) +ℤ (c ⊝ d)) ((a + c) ⊝ (b + d)) (omega (arith, add_is (a ⊝ b) (c ⊝ d), dif_is a b, dif_is c d, dif_is (a + c) (b + d)))

pub d_neg : (a b : ℕ) → neg_ℤ (a ⊝ b) ≡ b ⊝ a
d_neg a b = eq_of (neg_ℤ (a ⊝ b)) (b ⊝ a) (omega (arith, neg_is (a ⊝ b), dif_is a b, dif_is b a))

pub d_le : (a b c d : ℕ) → (a ⊝ b) ≤ℤ (c ⊝ d) ↔ (a + d ≤ c + b)
d_le a b c d = ((λ h. omega (arith, le_to h, dif_is a b, dif_is c d)), (λ h. le_of (a ⊝ b) (c ⊝ d) (omega (arith, dif_is a b, dif_is c d))))

pub d_lt : (a b c d : ℕ) → (a ⊝ b) <ℤ (c ⊝ d) ↔ (a + d < c + b)
d_lt a b c d = ((λ h. omega (arith, lt_to h, dif_is a b, dif_is c d)), (λ h. lt_of (a ⊝ b) (c ⊝ d) (omega (arith, dif_is a b, dif_is c d))))

pub d_eq : (a b c d : ℕ) → (a ⊝ b ≡ c ⊝ d) ↔ (a + d ≡ c + b)
d_eq a b c d = ((λ h. omega (arith, eq_to h, dif_is a b, dif_is c d)), (λ h. eq_of (a ⊝ b) (c ⊝ d) (omega (arith, dif_is a b, dif_is c d))))

pub ruleset linear = (d_pos, d_negsuc, d_add, d_neg, d_le, d_lt, d_eq)

-- A difference by which of the two is the greater.
pub dif_up : (b k : ℕ) → (b + k) ⊝ b ≡ pos k
dif_up b k = eq_of ((b + k) ⊝ b) (pos k) (omega (arith, dif_is (b + k) b))

pub dif_down : (a k : ℕ) → a ⊝ (a + suc k) ≡ negsuc k
dif_down a k = eq_of (a ⊝ (a + suc k)) (negsuc k) (omega (arith, dif_is a (a + suc k)))

pub split : (Q : ℕ → ℕ → Type 0) → ((b k : ℕ) → Q (b + k) b) → ((a k : ℕ) → Q a (a + suc k)) → (a b : ℕ) → Q a b
split Q f g a b = go (ltb a b) (ltb→lt a b) (nltb→le a b)
  where
    go : (t : Bool) → (T t → a < b) → (T (not t) → b ≤ a) → Q a b
    go true p q = let h : a < b = p tt in subst (λ (v : ℕ). Q a v) (omega arith) (g a (b - suc a))
    go false p q = let h : b ≤ a = q tt in subst (λ (v : ℕ). Q v b) (omega arith) (f b (a - b))

-- Products.
pub d_mul : (a b c d : ℕ) → (a ⊝ b) *ℤ (c ⊝ d) ≡ (a * c + b * d) ⊝ (a * d + b * c)
d_mul a b c d = split (λ a b. (a ⊝ b) *ℤ (c ⊝ d) ≡ (a * c + b * d) ⊝ (a * d + b * c))
    (λ b k. rw (dif_up b k) (split (λ c d. pos k *ℤ (c ⊝ d) ≡ ((b + k) * c + b * d) ⊝ ((b + k) * d + b * c)) (λ d l. rw (dif_up d l) (simp linear (omega arith))) (λ c l. rw (dif_down c l) (simp linear (omega arith))) c d))
    (λ a k. rw (dif_down a k) (split (λ c d. negsuc k *ℤ (c ⊝ d) ≡ (a * c + (a + suc k) * d) ⊝ (a * d + (a + suc k) * c)) (λ d l. rw (dif_up d l) (simp linear (omega arith))) (λ c l. rw (dif_down c l) (simp linear (omega arith))) c d))
    a b

-- Sizes: |x| as a sum of two cut-off differences, or only a bound on it.
pub d_abs : (a b : ℕ) → nat_abs (a ⊝ b) ≡ (a - b) + (b - a)
d_abs = split (λ a b. nat_abs (a ⊝ b) ≡ (a - b) + (b - a)) (λ b k. rw (dif_up b k) (omega arith)) (λ a k. rw (dif_down a k) (omega arith))

pub d_abs_le : (a b k : ℕ) → (nat_abs (a ⊝ b) ≤ k) ↔ ((a ≤ b + k) × (b ≤ a + k))
d_abs_le a b k = ((λ h. omega (arith, d_abs a b)), (λ h. omega (arith, d_abs a b)))

pub d_abs_lt : (a b k : ℕ) → (nat_abs (a ⊝ b) < k) ↔ ((a < b + k) × (b < a + k))
d_abs_lt a b k = ((λ h. omega (arith, d_abs a b)), (λ h. omega (arith, d_abs a b)))

pub d_non_neg : (a b : ℕ) → T (non_neg (a ⊝ b)) ↔ (b ≤ a)
d_non_neg = split (λ a b. T (non_neg (a ⊝ b)) ↔ (b ≤ a)) (λ b k. rw (dif_up b k) (omega arith, (λ h. tt))) (λ a k. rw (dif_down a k) ((λ h. absurd h), (λ h. absurd (omega arith))))

-- A machine test's answer.
T_true : {b : Bool} → T b → b ≡ true
T_true {b = true} t = refl
T_true {b = false} t = absurd t

pub true_t : {b : Bool} → b ≡ true → T b
true_t e = subst T (sym e) tt

not_t_false : {b : Bool} → (T b → ⊥) → b ≡ false
not_t_false {b = true} t = absurd (t tt)
not_t_false {b = false} t = refl

pub false_not : {b : Bool} → b ≡ false → T b → ⊥
false_not e t = subst T e t

pub d_le_z_t : (a b c d : ℕ) → (le_z (a ⊝ b) (c ⊝ d) ≡ true) ↔ (a + d ≤ c + b)
d_le_z_t a b c d = ((λ e. (d_le a b c d).0 (record { le = true_t e })), (λ h. T_true ((d_le a b c d).1 h).le))

pub d_lt_z_t : (a b c d : ℕ) → (lt_z (a ⊝ b) (c ⊝ d) ≡ true) ↔ (a + d < c + b)
d_lt_z_t a b c d = ((λ e. (d_lt a b c d).0 (record { lt = true_t e })), (λ h. T_true ((d_lt a b c d).1 h).lt))

pub d_le_z_f : (a b c d : ℕ) → (le_z (a ⊝ b) (c ⊝ d) ≡ false) ↔ (c + b < a + d)
d_le_z_f a b c d = ((λ e. let f : ¬ (a + d ≤ c + b) = λ k. false_not e ((d_le a b c d).1 k).le in omega arith), (λ h. not_t_false (λ t. let k : a + d ≤ c + b = (d_le a b c d).0 (record { le = t }) in omega arith)))

pub d_lt_z_f : (a b c d : ℕ) → (lt_z (a ⊝ b) (c ⊝ d) ≡ false) ↔ (c + b ≤ a + d)
d_lt_z_f a b c d = ((λ e. let f : ¬ (a + d < c + b) = λ k. false_not e ((d_lt a b c d).1 k).lt in omega arith), (λ h. not_t_false (λ t. let k : a + d < c + b = (d_lt a b c d).0 (record { lt = t }) in omega arith)))

-- A width's range.
pub d_sfits : (w : Width) (a b : ℕ) → SFits w (a ⊝ b) ↔ ((a < 2 ^ hbits w + b) × (b ≤ 2 ^ hbits w + a))
d_sfits w = split (λ a b. SFits w (a ⊝ b) ↔ ((a < 2 ^ hbits w + b) × (b ≤ 2 ^ hbits w + a)))
    (λ b k. rw (dif_up b k) ((λ h. omega (arith, h.sfits)), (λ h. record { sfits = omega arith })))
    (λ a k. rw (dif_down a k) ((λ h. omega (arith, h.sfits)), (λ h. record { sfits = omega arith })))

pub d_fits : (w : Width) (n : ℕ) → Fits w n ↔ (n < 2 ^ bits w)
d_fits w n = ((λ h. h.fits), (λ h. record { fits = h }))

pub ruleset machine = (d_sfits, d_fits, d_non_neg, d_le_z_t, d_lt_z_t, d_le_z_f, d_lt_z_f)
