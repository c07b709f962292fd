-- Distinct numbers below n are at most n.
use mathlib.Core.Path.{◌≡◌}
use mathlib.Core.Logic.{◌⊎◌, inl, inr}
use mathlib.Core.List.{List, [], ◌∷◌}
use Prim.Native.Nat.{ℕ, zero, suc, ◌≤◌, ◌<◌}
use native.Mathlib.Decide.{ℕ_discrete}
use native.Mathlib.Omega.{arith}
use lib.ListN.{length}

-- x stands in the list, or does not; no number stands in it twice; all are below n.
abbrev pub In : ℕ → List ℕ → Type 0
In x [] = ⊥
In x (y ∷ ys) = (x ≡ y) ⊎ In x ys

abbrev pub Out : ℕ → List ℕ → Type 0
Out x [] = Unit {0}
Out x (y ∷ ys) = (x ≡ y → ⊥) × Out x ys

abbrev pub Distinct : List ℕ → Type 0
Distinct [] = Unit {0}
Distinct (x ∷ xs) = Out x xs × Distinct xs

abbrev pub Below : ℕ → List ℕ → Type 0
Below n [] = Unit {0}
Below n (x ∷ xs) = (x < n) × Below n xs

-- Whether x stands in a list can be told.
pub seek : (x : ℕ) (xs : List ℕ) → In x xs ⊎ Out x xs
seek x [] = inr tt
seek x (y ∷ ys) = go (ℕ_discrete x y) (seek x ys)
  where
    go : Dec (x ≡ y) → In x ys ⊎ Out x ys → In x (y ∷ ys) ⊎ Out x (y ∷ ys)
    go (yes p) r = inl (inl p)
    go (no p) (inl i) = inl (inr i)
    go (no p) (inr o) = inr (p, o)

-- A list whose largest possible number m does not stand in it is of numbers below m.
lowered : (m : ℕ) (xs : List ℕ) → Out m xs → Below (suc m) xs → Below m xs
lowered m [] o b = tt
lowered m (x ∷ xs) o b = let e = o.0 in (omega (arith, b.0), lowered m xs o.1 b.1)

-- What is left of a list when m is taken out: at most one number less, none of them new.
record Without (m : ℕ) (xs : List ℕ) : Type 0 where
  rest : List ℕ
  long : length xs ≤ suc (length rest)
  distinct : Distinct rest
  below : Below m rest
  stays : (y : ℕ) → Out y xs → Out y rest

without : (m : ℕ) (xs : List ℕ) → Distinct xs → Below (suc m) xs → Without m xs
without m [] d b = record { rest = []; long = omega arith; distinct = tt; below = tt; stays = λ y o. tt }
without m (x ∷ xs) d b = go (ℕ_discrete m x) (without m xs d.1 b.1)
  where
    go : Dec (m ≡ x) → Without m xs → Without m (x ∷ xs)
    go (yes e) r = record { rest = xs; long = omega arith; distinct = d.1; below = lowered m xs (rw e d.0) b.1; stays = λ y o. o.1 }
    go (no e) r =
        record {
          rest = x ∷ r.rest;
          long = omega (arith, r.long);
          distinct = (r.stays x d.0, r.distinct);
          below = (omega (arith, b.0), r.below);
          stays = λ y o. (o.0, r.stays y o.1);
        }

pub pigeon : (n : ℕ) (xs : List ℕ) → Distinct xs → Below n xs → length xs ≤ n
pigeon zero [] d b = omega arith
pigeon zero (x ∷ xs) d b = absurd (omega (arith, b.0))
pigeon (suc m) xs d b = let r = without m xs d b in omega (arith, r.long, pigeon m r.rest r.distinct r.below)
