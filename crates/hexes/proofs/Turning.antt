-- The turning rule of the six steps: a sixth of a turn takes the step of each direction to that of the next. It is tested once, over the whole table; the rule at a
-- direction, and that three turns lead back, follow.
use mathlib.Core.Path.{◌≡◌, refl, sym, ap, ap₂, ◌∙◌}
use mathlib.Core.List.{List, [], ◌∷◌, ◌++◌, map}
use Prim.Native.Nat.{ℕ, suc, ◌+◌, ◌%◌, ◌<◌}
use native.Mathlib.Nat.{mod_self, mod-eq_of_lt}
use native.Mathlib.Decide.{dec_lt}
use native.Mathlib.Numerals.{add-one}
use native.Mathlib.Omega.{arith}
use lib.IntN.{ℤ, pos, neg_ℤ, ◌+ℤ◌}
use lib.ListN.{get_or, length, get_or-append, get_or-map}
use lib.Seq.{get_or-append_seam}
use Rattle.whole.proofs.Differences.{by2}
use Rattle.whole.proofs.Kit.{dif}
use Rattle.hexes.specs.Directions.{step, steps, step_of, sixth_turn}
use Rattle.hexes.specs.Tiles.{neighbor_of}
use Rattle.hexes.specs.declared.Step.{Step}
use Rattle.hexes.specs.declared.Tile.{Tile}

-- A list with its first entry moved to its end, and what stands in it.
moved_on : {A : Type 0} → List A → List A
moved_on [] = []
moved_on (x ∷ xs) = xs ++ x ∷ []

moved_on_at : {A : Type 0} (x : A) (xs : List A) (k : ℕ) (z : A) → k < suc (length xs) → get_or (moved_on (x ∷ xs)) k z ≡ get_or (x ∷ xs) ((k + 1) % suc (length xs)) z
unfolding moved_on
moved_on_at {A} x xs k z h = go (dec_lt k (length xs))
  where
    go : Dec (k < length xs) → get_or (xs ++ x ∷ []) k z ≡ get_or (x ∷ xs) ((k + 1) % suc (length xs)) z
    go (yes l) = get_or-append xs (x ∷ []) z k l ∙ ap (λ (n : ℕ). get_or (x ∷ xs) n z) (sym (mod-eq_of_lt {n = k + 1} {m = suc (length xs)} (omega arith) ∙ add-one k))
    go (no l) =
        let e : k ≡ length xs = omega arith in
        ap (λ (n : ℕ). get_or (xs ++ x ∷ []) n z) e ∙ get_or-append_seam xs x [] z ∙ ap (λ (n : ℕ). get_or (x ∷ xs) n z) (sym (ap (λ (n : ℕ). n % suc (length xs)) (add-one k ∙ ap suc e) ∙ mod_self (suc (length xs))))

-- The test over the table.
tested : map sixth_turn steps ≡ moved_on steps
unfolding moved_on
tested = refl

next_modulo : (d : ℕ) → (d % 6 + 1) % 6 ≡ (d + 1) % 6
next_modulo d = omega arith

-- The rule at each direction.
pub turning : (d : ℕ) → sixth_turn (step_of d) ≡ step_of (d + 1)
unfolding step_of
turning d =
    sym (get_or-map sixth_turn steps (d % 6) (step (pos 0) (pos 0)))
    ∙ ap (λ (l : List Step). get_or l (d % 6) (step (pos 0) (pos 0))) tested
    ∙ moved_on_at _ _ (d % 6) (step (pos 0) (pos 0)) (omega arith)
    ∙ ap (λ (n : ℕ). get_or steps n (step (pos 0) (pos 0))) (next_modulo d)

thrice : (x y : ℤ) → ((x +ℤ y) +ℤ neg_ℤ x +ℤ neg_ℤ (x +ℤ y) ≡ neg_ℤ x) × (neg_ℤ ((x +ℤ y) +ℤ neg_ℤ x) ≡ neg_ℤ y)
thrice = by2 _ (simp dif (omega arith))

-- Three sixths turn a step round, so the opposite direction leads back.
pub half_turn : (d : ℕ) → step_of (d + 3) ≡ step (neg_ℤ (step_of d).0) (neg_ℤ (step_of d).1)
half_turn d =
    let s = step_of d in
    let three : sixth_turn (sixth_turn (sixth_turn s)) ≡ step_of (d + 1 + 1 + 1) = ap (λ (t : Step). sixth_turn (sixth_turn t)) (turning d) ∙ ap sixth_turn (turning (d + 1)) ∙ turning (d + 1 + 1) in
    let e = thrice s.0 s.1 in
    ap step_of (omega arith) ∙ sym three ∙ ap₂ step e.0 e.1

there_and_back : (x s : ℤ) → x +ℤ s +ℤ neg_ℤ s ≡ x
there_and_back = by2 _ (simp dif (omega arith))

pub opposite_leads_back : (t : Tile) (d : ℕ) → neighbor_of (neighbor_of t d) (d + 3) ≡ t
unfolding neighbor_of
opposite_leads_back t d = rw (half_turn d, there_and_back t.x (step_of d).0, there_and_back t.y (step_of d).1)
