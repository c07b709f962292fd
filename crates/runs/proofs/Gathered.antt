-- Laws of lists made piece by piece: how they grow, when two are equal, what stands in them, and how long they are.
use mathlib.Core.Path.{◌≡◌, refl, ap₂, ◌∙◌}
use mathlib.Core.Logic.{◌⊎◌, inl, inr}
use mathlib.Core.List.Memᴰ
use mathlib.Core.List.{List, [], ◌++◌, Memᴰ}
use Prim.Native.Nat.{ℕ, zero, suc, ◌+◌, ◌≤◌, ◌<◌}
use native.Mathlib.Numerals.{add-one}
use native.Mathlib.Decide.{dec_lt, le_ind}
use native.Mathlib.Omega.{arith}
use lib.ListN.{length, length-append}
use Rattle.runs.specs.Lists.{gather, total}

-- That x stands in a list, with the place at which it stands.
abbrev pub In : {A : Type 0} → A → List A → Type 0
In x l = Memᴰ x l

-- That x stands in one of the first n pieces.
pub record Among {A : Type 0} (x : A) (f : ℕ → List A) (n : ℕ) : Type 0 where
  pub piece : ℕ
  pub below : piece < n
  pub inside : In x (f piece)

module _ {A : Type 0} (f : ℕ → List A) where
  pub gather_none : gather f 0 ≡ []
  unfolding gather
  gather_none = refl

  pub gather_more : (k : ℕ) → gather f (k + 1) ≡ gather f k ++ f k
  unfolding gather
  gather_more k = rw add-one

  long_more : (k : ℕ) → length (gather f (suc k)) ≡ length (gather f k) + length (f k)
  unfolding gather
  long_more k = length-append (gather f k) (f k)

  -- The first k pieces and the next are no longer than n of them, where k is below n.
  pub gather_room : (k n : ℕ) → k < n → length (gather f k) + length (f k) ≤ length (gather f n)
  gather_room k n h =
      le_ind {n = suc k} (λ m. length (gather f k) + length (f k) ≤ length (gather f m)) (omega (arith, long_more k)) (λ m hm p. omega (arith, long_more m)) n h

  -- The same pieces make the same list.
  pub gather_ext : (g : ℕ → List A) (n : ℕ) → ((k : ℕ) → k < n → f k ≡ g k) → gather f n ≡ gather g n
  unfolding gather
  gather_ext g zero h = refl
  gather_ext g (suc n) h = ap₂ ◌++◌ (gather_ext g n (λ k l. h k (omega arith))) (h n (omega arith))

  -- The length is the sum of the lengths of the pieces.
  pub gather_length : (g : ℕ → ℕ) (n : ℕ) → ((k : ℕ) → k < n → length (f k) ≡ g k) → length (gather f n) ≡ total g n
  unfolding gather total
  gather_length g zero h = refl
  gather_length g (suc n) h = length-append (gather f n) (f n) ∙ ap₂ ◌+◌ (gather_length g n (λ k l. h k (omega arith))) (h n (omega arith))

  -- What stands in the list stands in a piece.
  pub among : (n : ℕ) (x : A) → In x (gather f n) → Among x f n
  unfolding gather
  among zero x m = absurd (Memᴰ.not-nil m)
  among (suc n) x m = go (among n x) (Memᴰ.append_cases (gather f n) m)
    where
      go : (In x (gather f n) → Among x f n) → In x (gather f n) ⊎ In x (f n) → Among x f (suc n)
      go before (inl p) = let a = before p in record { piece = a.piece; below = omega arith; inside = a.inside }
      go before (inr p) = record { piece = n; below = omega arith; inside = p }

  -- What stands in a piece stands in the list.
  pub in_piece : (n k : ℕ) (x : A) → k < n → In x (f k) → In x (gather f n)
  unfolding gather
  in_piece zero k x l p = absurd (omega arith)
  in_piece (suc n) k x l p = go (in_piece n k x) (dec_lt k n)
    where
      go : (k < n → In x (f k) → In x (gather f n)) → Dec (k < n) → In x (gather f n ++ f n)
      go before (yes h) = Memᴰ.append_left (f n) (before h p)
      go before (no h) = let e : k ≡ n = omega arith in Memᴰ.append_right (gather f n) (rw e at p)

-- A sum, and one number more.
pub total_none : (g : ℕ → ℕ) → total g 0 ≡ 0
unfolding total
total_none g = refl

pub total_more : (g : ℕ → ℕ) (k : ℕ) → total g (k + 1) ≡ total g k + g k
unfolding total
total_more g k = rw add-one
