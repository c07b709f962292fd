-- No one answer serves every input: a call that answers the same always, or refuses always, breaks its promise. Two inputs show it of each call.
use mathlib.Core.Path.{◌≡◌, refl, sym, ap, ◌∙◌}
use mathlib.Core.Bool.{Bool, true, false}
use mathlib.Core.List.{List}
use Prim.Native.Nat.{ℕ, ◌-◌}
use native.Mathlib.Omega.{arith}
use lib.IntN.{pos, nat_abs}
use Rattle.std.specs.Prelude.{get_or}
use Rattle.std.proofs.lemmas.Fmt.{decimal_digit}
use Rattle.hexes.specs.Answers.{Told, Answer, origin, TileTells, judged_tile}
use Rattle.hexes.specs.Directions.{step_of, turned_by}
use Rattle.hexes.specs.Refusals.{number_of, refusal_text}
use Rattle.hexes.specs.Tiles.{tile, place, span, neighbor_of, distance_of, within_limit}
use Rattle.hexes.specs.declared.Direction.{Direction}
use Rattle.hexes.specs.declared.Place.{Place}
use Rattle.hexes.specs.declared.Step.{Step}
use Rattle.hexes.specs.declared.Tile.{Tile}
use Rattle.hexes.specs.declared.refusal.Refusal.{Refusal}
use Rattle.hexes.proofs.Tells.{tells_both}

-- Two values of different size are not one value.
apart : {A : Type 0} (size : A → ℕ) {a b r : A} → r ≡ a → r ≡ b → size a ≡ 0 → size b ≡ 1 → ⊥
apart size p q z o = let e = ap size (sym p ∙ q) in omega arith

one : Tile
one = tile (pos 1) (pos 0)

truth : Bool → ℕ
truth false = 0
truth true = 1

pub step_of_no_constant : (r : Step) → ((d : ℕ) → r ≡ step_of d) → ⊥
unfolding step_of
step_of_no_constant r h = apart (λ (s : Step). nat_abs s.0) (h 2) (h 0) refl refl

pub turned_no_constant : (r : Direction) → ((d by : ℕ) → r ≡ turned_by d by) → ⊥
turned_no_constant r h = apart (λ (d : Direction). d.0) (h 0 0) (h 0 1) refl refl

pub opposite_no_constant : (r : Direction) → ((d : ℕ) → r ≡ turned_by d 3) → ⊥
opposite_no_constant r h = apart (λ (d : Direction). d.0) (h 3) (h 4) refl refl

pub place_of_no_constant : (r : Place) → ((t : Tile) → r ≡ place t) → ⊥
unfolding one
place_of_no_constant r h = apart (λ (p : Place). nat_abs p.x) (h origin) (h one) refl refl

pub neighbor_no_constant : (r : Place) → ((t : Tile) (d : ℕ) → r ≡ place (neighbor_of t d)) → ⊥
unfolding neighbor_of step_of
neighbor_no_constant r h = apart (λ (p : Place). nat_abs p.x) (h origin 2) (h origin 0) refl refl

pub distance_no_constant : (r : ℕ) → ((a b : Tile) → r ≡ distance_of a b) → ⊥
unfolding one distance_of span
distance_no_constant r h = apart (λ (n : ℕ). n) (h origin origin) (h origin one) refl refl

pub judged_no_constant : (r : Answer Tile) → ((at : Place) → TileTells r (λ told. told ≡ judged_tile at)) → ⊥
unfolding one judged_tile within_limit
judged_no_constant r h =
    tells_both origin _ _ (λ told p q. apart (λ (v : Told Tile). nat_abs v.value.x) p q refl refl) r (h (place origin)) (h (place one))

pub within_limit_no_constant : (r : Bool) → ((t : Tile) → r ≡ within_limit t) → ⊥
unfolding truth within_limit
within_limit_no_constant r h = apart truth (h (tile (pos 1000001) (pos 0))) (h origin) refl refl

pub refusal_number_no_constant : (r : ℕ) → ((e : Refusal) → r ≡ number_of e) → ⊥
refusal_number_no_constant r h = apart (λ (n : ℕ). n - 1) (h Refusal.BeyondLimit) (h Refusal.TooLarge) refl refl

-- The digits 1 and 2 are the characters 49 and 50.
pub refusal_text_no_constant : (r : List ℕ) → ((e : Refusal) → r ≡ refusal_text e) → ⊥
refusal_text_no_constant r h = apart (λ (text : List ℕ). get_or text 0 0 - 49) (h Refusal.BeyondLimit ∙ decimal_digit 1 (omega arith)) (h Refusal.TooLarge ∙ decimal_digit 2 (omega arith)) refl refl
