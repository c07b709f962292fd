-- Laws of what an answer tells: a refusal is its number, a weaker rule is told too, and a rule that one thing told at most meets is told by one answer at most.
use mathlib.Core.Path.{◌≡◌, refl, sym, ap, ◌∙◌}
use Prim.Native.Nat.{ℕ, ◌<◌}
use native.Mathlib.Omega.{arith}
use Rattle.std.specs.Prelude.{[], ◌∷◌, get_or, Ok, Err, IsErrAnd}
use Rattle.hexes.specs.Answers.{Told, Answer, Tells, origin, TileTells}
use Rattle.hexes.specs.Refusals.{number_of}
use Rattle.hexes.specs.declared.Tile.{Tile}
use Rattle.hexes.specs.declared.refusal.Refusal.{Refusal}

-- A rule that at most one thing told meets. One that names what is told is such a rule.
unfoldable pub One : {A : Type 0} → (Told A → Type 0) → Type 0
One {A} rule = (v w : Told A) → rule v → rule w → v ≡ w

pub one_value : {A : Type 0} (value : Told A) → One (λ (told : Told A). told ≡ value)
unfolding One
one_value value v w p q = p ∙ sym q

-- No refusal has the number 0, which stands for none, and no two have the same.
pub refusal_number : (e : Refusal) → 0 < number_of e
refusal_number Refusal.BeyondLimit = omega arith
refusal_number Refusal.TooLarge = omega arith
refusal_number Refusal.UnknownNumber = omega arith
refusal_number Refusal.OddPair = omega arith
refusal_number Refusal.NotOfMap = omega arith
refusal_number Refusal.WrongLength = omega arith
refusal_number Refusal.RunTooShort = omega arith
refusal_number Refusal.NoOpenPath = omega arith

refusal_of : ℕ → Refusal
refusal_of n = get_or (Refusal.NoOpenPath ∷ Refusal.BeyondLimit ∷ Refusal.TooLarge ∷ Refusal.UnknownNumber ∷ Refusal.OddPair ∷ Refusal.NotOfMap ∷ Refusal.WrongLength ∷ Refusal.RunTooShort ∷ []) n Refusal.NoOpenPath

refusal_back : (e : Refusal) → refusal_of (number_of e) ≡ e
unfolding refusal_of
refusal_back Refusal.BeyondLimit = refl
refusal_back Refusal.TooLarge = refl
refusal_back Refusal.UnknownNumber = refl
refusal_back Refusal.OddPair = refl
refusal_back Refusal.NotOfMap = refl
refusal_back Refusal.WrongLength = refl
refusal_back Refusal.RunTooShort = refl
refusal_back Refusal.NoOpenPath = refl

pub refusal_one : (e f : Refusal) → number_of e ≡ number_of f → e ≡ f
refusal_one e f p = sym (refusal_back e) ∙ ap refusal_of p ∙ refusal_back f

module _ {A : Type 0} (zeros : A) where
  pub tells_more : (P Q : Told A → Type 0) → ((told : Told A) → P told → Q told) → (a : Answer A) → Tells zeros a P → Tells zeros a Q
  tells_more P Q f (Ok a) p = f _ p
  tells_more P Q f (Err e) p = f _ p

  pub tells_one : (rule : Told A → Type 0) → One rule → (a b : Answer A) → Tells zeros a rule → Tells zeros b rule → a ≡ b
  unfolding One
  tells_one rule one (Ok a) (Ok b) p q = ap (λ (told : Told A). Ok told.value) (one _ _ p q)
  tells_one rule one (Ok a) (Err e) p q = let z : 0 ≡ number_of e = ap (λ (told : Told A). told.number) (one _ _ p q) in absurd (omega (arith, refusal_number e))
  tells_one rule one (Err e) (Ok b) p q = let z : number_of e ≡ 0 = ap (λ (told : Told A). told.number) (one _ _ p q) in absurd (omega (arith, refusal_number e))
  tells_one rule one (Err e) (Err f) p q = ap (λ (g : Refusal). Err g) (refusal_one e f (ap (λ (told : Told A). told.number) (one _ _ p q)))

  -- No one answer tells two rules that nothing told meets both of: refusing everything, or answering the same always, meets no promise that tells two inputs apart.
  pub tells_both : (P Q : Told A → Type 0) → ((told : Told A) → P told → Q told → ⊥) → (a : Answer A) → Tells zeros a P → Tells zeros a Q → ⊥
  tells_both P Q apart (Ok a) p q = apart _ p q
  tells_both P Q apart (Err e) p q = apart _ p q

pub tile_tells_one : (rule : Told Tile → Type 0) → One rule → (r s : Answer Tile) → TileTells r rule → TileTells s rule → r ≡ s
tile_tells_one = tells_one origin

-- What `?` passes on is the refusal itself.
pub passed_on : {A : Type 0} {e : Refusal} (r : Answer A) → IsErrAnd r (λ f. f ≡ e) → r ≡ Err e
passed_on (Ok a) p = absurd p
passed_on (Err f) p = ap (λ (g : Refusal). Err g) p
