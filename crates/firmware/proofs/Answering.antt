-- From what the calls below have answered, over the map, the tile and the centre that were made, to the number that C is told and the run that it is left.
use mathlib.Core.Path.{◌≡◌, refl, ap, ap₂, subst, ◌∙◌}
use mathlib.Core.List.{List}
use Prim.Native.Nat.{ℕ, zero, suc, ◌<◌}
use native.Mathlib.Omega.{arith}
use lib.IntN.{ℤ, pos}
use Rattle.std.specs.Prelude.{Ok, Err, MatchResult, IsOkAnd}
use Rattle.hexes.specs.Answers.{Told, Answer, Tells}
use Rattle.hexes.specs.Refusals.{number_of}
use Rattle.hexes.specs.declared.Tile.{Tile}
use Rattle.hexes.proofs.Tells.{refusal_number}
use Rattle.runs.specs.Runs.{Lists}
use Rattle.storage.specs.Hexmod.{IndexTells, to_hexmod}
use Rattle.storage.specs.declared.Index.{Index}
use Rattle.storage.specs.declared.Map.{Map}
use Rattle.firmware.specs.Calls.{minus, answer_told}
use Rattle.firmware.specs.Lists.{ListCall}
use Rattle.firmware.specs.Numbers.{answered, index_answered}

-- With a refusal the value does not matter.
answered_refused : (number value : ℕ) → 0 < number → minus number ≡ answered number value
unfolding answered
answered_refused zero value h = absurd (omega arith)
answered_refused (suc number) value h = refl

-- With none it is the answer.
answered_value : (value : ℕ) → pos value ≡ answered 0 value
unfolding answered
answered_value value = refl

-- What is told of an answer, by what it tells.
told_number : (a : Answer ℕ) (told : Told ℕ) → Tells 0 a (λ t. t ≡ told) → answer_told a ≡ answered told.number told.value
told_number (Ok n) told h = answered_value n ∙ ap (λ (t : Told ℕ). answered t.number t.value) h
told_number (Err e) told h = answered_refused (number_of e) 0 (refusal_number e) ∙ ap (λ (t : Told ℕ). answered t.number t.value) h

-- An index that was asked for of the map and the tile that were made. Its number is that of the answer.
pub index_call : {map made : Map} → made ≡ map → {t asked : Tile} → asked ≡ t → (a : Answer Index) (b : Answer ℕ) → IndexTells a (λ told. told ≡ to_hexmod made asked) → MatchResult a (λ i. IsOkAnd b (λ n. n ≡ i.0)) (λ e. b ≡ Err e) → answer_told b ≡ index_answered map t
index_call {map} {made} is {t} {asked} at a b h k = told_index a b h k ∙ ap₂ index_answered is at
  where
    told_index : (a : Answer Index) (b : Answer ℕ) → IndexTells a (λ told. told ≡ to_hexmod made asked) → MatchResult a (λ i. IsOkAnd b (λ n. n ≡ i.0)) (λ e. b ≡ Err e) → answer_told b ≡ index_answered made asked
    told_index (Ok i) (Ok n) h k = ap (λ (m : ℕ). pos m) k ∙ answered_value i.0 ∙ ap (λ (told : Told Index). answered told.number told.value.0) h
    told_index (Ok i) (Err e) h k = absurd k
    told_index (Err e) b h k = ap answer_told k ∙ answered_refused (number_of e) 0 (refusal_number e) ∙ ap (λ (told : Told Index). answered told.number told.value.0) h

-- A list that was asked for of the centre that was made.
pub told_list : (number : ℕ) (tiles : List Tile) (before after : List ℤ) (a : Answer ℕ) (answer : ℤ) → answer ≡ answer_told a → Lists number tiles before a after → ListCall number tiles before after answer
told_list number tiles before after a answer e h = record { answers = e ∙ told_number a _ h.told; holds = h.holds }

pub list_call : (number : Tile → ℕ) (tiles : Tile → List Tile) {centre made : Tile} → made ≡ centre → (before after : List ℤ) (a : Answer ℕ) (answer : ℤ) → answer ≡ answer_told a → Lists (number made) (tiles made) before a after → ListCall (number centre) (tiles centre) before after answer
list_call number tiles is before after a answer e h =
    subst (λ (c : Tile). ListCall (number c) (tiles c) before after answer) is (told_list _ _ before after a answer e h)
