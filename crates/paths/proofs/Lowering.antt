-- Engines that lower entries by single steps, such as a worklist, a heap or buckets: what holds at the start, at each step and at the end, and the sum that falls.
use mathlib.Core.Path.{◌≡◌, ap, ◌∙◌}
use mathlib.Core.List.{List, [], ◌∷◌}
use Prim.Native.Nat.{ℕ, zero, suc, ◌+◌, ◌≤◌, ◌<◌}
use native.Mathlib.Nat.{not-suc-le-zero}
use native.Mathlib.Decide.{ℕ_discrete}
use native.Mathlib.Omega.{arith}
use lib.ListN.{length, get_or, set}
use Rattle.paths.specs.Lands.{Land, Step, here, then}
use Rattle.paths.specs.Engines.{Reached, Settled, Going}

-- The start: 0 at s, the mark elsewhere, and the steps out of s are to be looked at.
pub going_begin : (G : Land) (T : ℕ → ℕ) (s b : ℕ) (P : ℕ → ℕ → Type 0)
    → T s ≡ 0 → ((t : ℕ) → t < G.tiles → (t ≡ s → ⊥) → T t ≡ G.mark) → ((d : ℕ) → d < 6 → P s d) → Going G T s b P
going_begin G T s b P z o p =
    record {
      home = z;
      sound = λ t h m. sound t h m (ℕ_discrete t s);
      blank = λ t h. blank t h (ℕ_discrete t s);
      still = λ u d t w st f m l. absurd (none u d t w st f m (ℕ_discrete u s));
    }
  where
    sound : (t : ℕ) → t < G.tiles → T t < G.mark → Dec (t ≡ s) → Reached G s b t (T t)
    sound t h m (yes e) = rw (e, z) (([], here), omega arith)
    sound t h m (no e) = absurd (omega (arith, o t h e))

    blank : (t : ℕ) → t < G.tiles → Dec (t ≡ s) → T t ≤ G.mark
    blank t h (yes e) = rw (e, z) (omega arith)
    blank t h (no e) = omega (arith, o t h e)

    none : (u d t w : ℕ) → Step G u d t w → (P u d → ⊥) → T u < G.mark → Dec (u ≡ s) → ⊥
    none u d t w st f m (yes e) = f (rw e (p d st.dir))
    none u d t w st f m (no e) = omega (arith, o u st.on e)

-- A step lowers the entry of y: then all steps out of y are to be looked at.
pub going_lower : (G : Land) (T T' : ℕ → ℕ) (s b : ℕ) (P P' : ℕ → ℕ → Type 0) (x e y w : ℕ)
    → Step G x e y w → T x < G.mark → T x + w ≤ b → T x + w < T y
    → T' y ≡ T x + w → ((t : ℕ) → (t ≡ y → ⊥) → T' t ≡ T t)
    → ((d : ℕ) → d < 6 → P' y d) → ((u d : ℕ) → P u d → P' u d)
    → Going G T s b P → Going G T' s b P'
going_lower G T T' s b P P' x e y w st m l k z o p q S =
    record {
      home = o s (λ i. home i) ∙ S.home;
      sound = λ t h n. sound t h n (ℕ_discrete t y);
      blank = λ t h. omega (arith, less t (ℕ_discrete t y), S.blank t h);
      still = λ u d t v r f n j. still u d t v r f n j (ℕ_discrete u y);
    }
  where
    home : s ≡ y → ⊥
    home i = omega (arith, S.home, ap T i)

    less : (t : ℕ) → Dec (t ≡ y) → T' t ≤ T t
    less t (yes i) = rw i (omega arith)
    less t (no i) = omega (arith, o t i)

    sound : (t : ℕ) → t < G.tiles → T' t < G.mark → Dec (t ≡ y) → Reached G s b t (T' t)
    sound t h n (yes i) =
        let r = (S.sound x st.on m).0 in
        rw (i, z) ((e ∷ r.0, then r.1 st), l)
    sound t h n (no i) = rw (o t i) (S.sound t h (rw (o t i) at n))

    still : (u d t v : ℕ) → Step G u d t v → (P' u d → ⊥) → T' u < G.mark → T' u + v ≤ b → Dec (u ≡ y) → T' t ≤ T' u + v
    still u d t v r f n j (yes i) = absurd (f (rw i (p d r.dir)))
    still u d t v r f n j (no i) =
        let a = o u i in
        omega (arith, less t (ℕ_discrete t y), S.still u d t v r (λ g. f (q u d g)) (omega arith) (omega arith))

-- The step out of x by direction e has been looked at: what it leads to is low enough.
pub going_past : (G : Land) (T : ℕ → ℕ) (s b : ℕ) (P P' : ℕ → ℕ → Type 0) (x e : ℕ)
    → ((t w : ℕ) → Step G x e t w → T x < G.mark → T x + w ≤ b → T t ≤ T x + w)
    → ((u d : ℕ) → P u d → ((u ≡ x) × (d ≡ e) → ⊥) → P' u d)
    → Going G T s b P → Going G T s b P'
going_past G T s b P P' x e low q S =
    record { home = S.home; sound = S.sound; blank = S.blank; still = λ u d t w st f. still u d t w st f (ℕ_discrete u x) (ℕ_discrete d e) }
  where
    still : (u d t w : ℕ) → Step G u d t w → (P' u d → ⊥) → Dec (u ≡ x) → Dec (d ≡ e) → T u < G.mark → T u + w ≤ b → T t ≤ T u + w
    still u d t w st f (yes i) (yes j) = rw i (low t w (rw j at (rw i at st)))
    still u d t w st f (yes i) (no j) = S.still u d t w st (λ g. f (q u d g (λ z. j z.1)))
    still u d t w st f (no i) j = S.still u d t w st (λ g. f (q u d g (λ z. i z.0)))

-- What is to be looked at may be said otherwise, or more may be.
pub going_less : (G : Land) (T : ℕ → ℕ) (s b : ℕ) (P P' : ℕ → ℕ → Type 0) → ((u d : ℕ) → d < 6 → P u d → P' u d) → Going G T s b P → Going G T s b P'
going_less G T s b P P' q S =
    record { home = S.home; sound = S.sound; blank = S.blank; still = λ u d t w st f. S.still u d t w st (λ p. f (q u d st.dir p)) }

-- The end: nothing is left to be looked at.
pub going_settled : (G : Land) (T : ℕ → ℕ) (s b : ℕ) (P : ℕ → ℕ → Type 0) → ((u d : ℕ) → P u d → ⊥) → Going G T s b P → Settled G T s b
going_settled G T s b P f S = record { home = S.home; sound = S.sound; blank = S.blank; still = λ u d t w st. S.still u d t w st (f u d) }

-- An engine ends because the sum of the entries falls with each entry that is lowered.
unfoldable pub total : List ℕ → ℕ
total [] = 0
total (x ∷ xs) = x + total xs

pub total_set : (L : List ℕ) (i x : ℕ) → i < length L → total (set L i x) + get_or L i 0 ≡ total L + x
unfolding total
total_set [] i x h = absurd (not-suc-le-zero h)
total_set (y ∷ ys) zero x h = omega arith
total_set (y ∷ ys) (suc i) x h = omega (arith, total_set ys i x (omega arith))
