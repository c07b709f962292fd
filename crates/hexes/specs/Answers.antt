-- Answers in the paper's terms: a refusal number, 0 when the input is accepted, and a value, whose numbers are zeros with a refusal.
use Rattle.std.specs.Prelude.{Bool, cond, ℕ, pos, Result, Ok, Err}
use Rattle.hexes.specs.Refusals.{beyond_limit, number_of}
use Rattle.hexes.specs.Tiles.{tile, tile_at, within_limit}
use Rattle.hexes.specs.declared.Tile.{Tile}
use Rattle.hexes.specs.declared.Place.{Place}
use Rattle.hexes.specs.declared.refusal.Refusal.{Refusal}

pub record Told (A : Type 0) : Type 0 where
  pub number : ℕ
  pub value : A

abbrev pub accepted : {A : Type 0} → A → Told A
accepted a = record { number = 0; value = a }

-- `zeros` is the value whose numbers are all 0.
abbrev pub refused : {A : Type 0} → A → ℕ → Told A
refused zeros n = record { number = n; value = zeros }

-- What the code answers is a value that it found, or a refusal.
abbrev pub Answer : Type 0 → Type 0
Answer A = Result A Refusal

-- The number and the value that each case of an answer stands for, held to a rule: what is found is number 0 and that value, a refusal is its own number and zeros.
abbrev pub Tells : {A : Type 0} → A → Answer A → (Told A → Type 0) → Type 0
Tells zeros (Ok a) rule = rule (accepted a)
Tells zeros (Err e) rule = rule (refused zeros (number_of e))

-- The number of an answer: 0 where something was found.
abbrev pub number_told : {A : Type 0} → Answer A → ℕ
number_told (Ok a) = 0
number_told (Err e) = number_of e

-- What is answered provided that a test holds, and what otherwise: a chain of these judges in the order in which it is read.
abbrev pub provided : {A : Type 0} → Bool → A → A → A
provided test otherwise answer = cond test answer otherwise

-- What the answer of a call that finds a tile tells, and a refusal in its terms.
abbrev pub origin : Tile
origin = tile (pos 0) (pos 0)

abbrev pub TileTells : Answer Tile → (Told Tile → Type 0) → Type 0
TileTells = Tells origin

abbrev pub refused_tile : ℕ → Told Tile
refused_tile = refused origin

-- The tile at a place, or refusal 1 where a coordinate is beyond the limit.
unfoldable pub judged_tile : Place → Told Tile
judged_tile p = provided (within_limit (tile_at p)) (refused_tile beyond_limit) (accepted (tile_at p))
