-- Answers as numbers, and how they are laid out in an array.
use Rattle.std.specs.Prelude.{◌≡◌, cond, List, [], ◌∷◌, ℕ, suc, ltb, ℤ, pos, negsuc, set, Result, Ok, Err, Option, Some, None}
use Rattle.hexes.specs.Refusals.{number_of}
use Rattle.hexes.specs.declared.Tile.{Tile}
use Rattle.hexes.specs.declared.refusal.Refusal.{Refusal}
use Rattle.questions.specs.declared.answer.Answer.{Answer}
use Rattle.questions.specs.declared.answer.Laid.{Laid}
use Rattle.questions.specs.declared.answer.Numbers.{Numbers}
use Rattle.questions.specs.declared.answer.Numbers.TheVariants.{One, Two, Three}

-- How many numbers there are, and the numbers with zeros behind them.
abbrev pub count : Numbers → ℕ
count (One first) = 1
count (Two first second) = 2
count (Three first second third) = 3

abbrev pub padded : Numbers → List ℤ
padded (One first) = first ∷ pos 0 ∷ pos 0 ∷ []
padded (Two first second) = first ∷ second ∷ pos 0 ∷ []
padded (Three first second third) = first ∷ second ∷ third ∷ []

-- An answer of these numbers, to a question of so many words.
abbrev pub answered : ℕ → Numbers → Answer
answered words numbers = record { took = words; numbers = numbers }

-- What an answer of the library tells: 0 and what is found, or the refusal's number and zeros.
abbrev pub told_of : {A : Type 0} → A → Result A Refusal → ℤ × A
told_of zeros (Ok a) = (pos 0, a)
told_of zeros (Err e) = (pos (number_of e), zeros)

-- A tile is told by 0, x and y, and a refusal by its number and zeros.
abbrev pub of_tile : ℕ → Result Tile Refusal → Answer
of_tile words (Ok t) = answered words (Three (pos 0) t.x t.y)
of_tile words (Err e) = answered words (Three (pos (number_of e)) (pos 0) (pos 0))

-- A number as a word, and -1 where it is no signed number of 64 bits.
abbrev pub word_of : ℕ → ℤ
word_of n = cond (ltb n 9223372036854775808) (pos n) (negsuc 0)

-- An array that held `numbers`, with the entries from a place on, each as the word that says it. An entry that has no place in the array is not laid.
abbrev pub laid_from : {A : Type 0} → (A → ℤ) → List A → ℕ → List ℤ → List ℤ
laid_from word [] at numbers = numbers
laid_from word (a ∷ entries) at numbers = laid_from word entries (suc at) (set numbers at (word a))

-- What is said of an answer that is laid out, and the array that held `numbers` with it.
abbrev pub laid_of : Option Answer → Option Laid
laid_of (Some a) = Some (record { took = a.took; length = count a.numbers })
laid_of None = None

abbrev pub laid_out : Option Answer → List ℤ → List ℤ
laid_out (Some a) numbers = laid_from (λ number. number) (padded a.numbers) 0 numbers
laid_out None numbers = numbers

-- The promise of a call that asks one question and lays out its answer in an array that held `entry`: what it says, and what the array then holds, are of one answer. Which
-- answer that is, it does not say.
pub record Lays (entry : List ℤ) (r : Option Laid) (exit : List ℤ) : Type 0 where
  pub asked : Option Answer
  pub said : r ≡ laid_of asked
  pub holds : exit ≡ laid_out asked entry

-- The promise of a call whose questions all take so many words, the kind included, and whose answer may be of any length: it says that number, or that the words could not be read.
abbrev pub Takes : ℕ → Option Laid → Type 0
Takes words (Some laid) = laid.took ≡ words
Takes words None = Unit

-- It is said that so many words were taken and so many numbers answered, or that the words could not be read.
abbrev pub Says : ℕ → ℕ → Option Laid → Type 0
Says words numbers (Some laid) = (laid.took ≡ words) × (laid.length ≡ numbers)
Says words numbers None = Unit {0}
