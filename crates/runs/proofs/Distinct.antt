-- Lists in which nothing stands twice: laws for lists that are joined, and for lists made piece by piece.
use mathlib.Core.Path.{◌≡◌, refl, sym, ap, ◌∙◌}
use mathlib.Core.List.Memᴰ
use mathlib.Core.List.{List, [], ◌∷◌, ◌++◌}
use Prim.Native.Nat.{ℕ, zero, suc, ◌+◌, ◌-◌, ◌≤◌, ◌<◌}
use native.Mathlib.Decide.{dec_lt}
use native.Mathlib.Omega.{arith}
use lib.ListN.{length, get_or, length-append, get_or-append}
use lib.Seq.{get_or-append-add}
use Rattle.runs.specs.Lists.{gather}
use Rattle.runs.proofs.Gathered.{In, among}

-- Equal entries stand at equal places. (z is the entry that `get_or` gives past the list's end, which no place below its length is.)
pub record Once {A : Type 0} (l : List A) : Type 0 where
  pub once : (z : A) (i j : ℕ) → i < length l → j < length l → get_or l i z ≡ get_or l j z → i ≡ j

module _ {A : Type 0} where
  -- An entry stands in its list.
  pub in_at : (l : List A) (i : ℕ) (z : A) → i < length l → In (get_or l i z) l
  in_at [] i z h = absurd (omega arith)
  in_at (x ∷ l) zero z h = Memᴰ.head refl
  in_at (x ∷ l) (suc i) z h = Memᴰ.tail (in_at l i z (omega arith))

  -- A list of one entry, and of none.
  pub once_one : (x : A) → Once (x ∷ [])
  once_one x = record { once = λ z i j p q e. omega arith }

  pub once_none : Once {A = A} []
  once_none = record { once = λ z i j p q e. absurd (omega arith) }

  -- Past the end of l the entries of l ++ m are those of m.
  rear : (l m : List A) (i : ℕ) (z : A) → length l ≤ i → get_or (l ++ m) i z ≡ get_or m (i - length l) z
  rear l m i z h = let e : i ≡ length l + (i - length l) = omega arith in ap (λ (n : ℕ). get_or (l ++ m) n z) e ∙ get_or-append-add l m (i - length l) z

  -- Nothing stands twice in two such lists joined, if they share nothing.
  pub once_append : (l m : List A) → Once l → Once m → ((x : A) → In x l → In x m → ⊥) → Once (l ++ m)
  once_append l m a b apart = record { once = λ z i j p q e. go z i j p q e (dec_lt i (length l)) (dec_lt j (length l)) }
    where
      clash : (z : A) (i j : ℕ) → i < length l → length l ≤ j → j < length (l ++ m) → get_or (l ++ m) i z ≡ get_or (l ++ m) j z → ⊥
      clash z i j p n q e =
          let same : get_or l i z ≡ get_or m (j - length l) z = sym (get_or-append l m z i p) ∙ e ∙ rear l m j z n in
          apart (get_or l i z) (in_at l i z p) (rw same (in_at m (j - length l) z (omega (arith, length-append l m))))

      go : (z : A) (i j : ℕ) → i < length (l ++ m) → j < length (l ++ m) → get_or (l ++ m) i z ≡ get_or (l ++ m) j z → Dec (i < length l) → Dec (j < length l) → i ≡ j
      go z i j p q e (yes s) (yes t) = a.once z i j s t (sym (get_or-append l m z i s) ∙ e ∙ get_or-append l m z j t)
      go z i j p q e (yes s) (no t) = absurd (clash z i j s (omega arith) q e)
      go z i j p q e (no s) (yes t) = absurd (clash z j i t (omega arith) p (sym e))
      go z i j p q e (no s) (no t) =
          let both = b.once z (i - length l) (j - length l) (omega (arith, length-append l m)) (omega (arith, length-append l m)) (sym (rear l m i z (omega arith)) ∙ e ∙ rear l m j z (omega arith)) in
          omega arith

  -- Nor in pieces of which no two share anything.
  pub once_gather : (f : ℕ → List A) (n : ℕ) → ((k : ℕ) → k < n → Once (f k)) → ((i j : ℕ) (x : A) → i < j → j < n → In x (f i) → In x (f j) → ⊥) → Once (gather f n)
  unfolding gather
  once_gather f zero each apart = once_none
  once_gather f (suc n) each apart =
      let before = once_gather f n (λ k h. each k (omega arith)) (λ i j x p q. apart i j x p (omega arith)) in
      once_append (gather f n) (f n) before (each n (omega arith)) (λ x p q. let a = among f n x p in apart a.piece n x a.below (omega arith) a.inside q)
