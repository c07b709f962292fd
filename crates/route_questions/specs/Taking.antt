-- How many words the question about routes takes, and how many numbers its answer has.
use Rattle.std.specs.Prelude.{◌≡◌, List, ℕ, ◌+◌, ◌*◌, ℤ, Option, Some, None}
use Rattle.questions.specs.Answers.{Says}
use Rattle.questions.specs.Arguments.{unsigned_at}
use Rattle.questions.specs.declared.answer.Laid.{Laid}

-- What is said of a question with so many efforts, ranks and entries of a run. The route takes eleven words and the efforts, and answers two numbers, the entries, and two numbers for
-- each rank.
pub record TakesOf (efforts ranks entries : ℕ) (r : Option Laid) : Type 0 where
  pub says : Says (11 + efforts) (2 + entries + 2 * ranks) r

-- The same, where the three lengths are words of the line that may be missing.
abbrev pub TakesLengths : Option ℕ → Option ℕ → Option ℕ → Option Laid → Type 0
TakesLengths (Some efforts) (Some ranks) (Some entries) r = TakesOf efforts ranks entries r
TakesLengths (Some efforts) (Some ranks) None r = r ≡ None
TakesLengths (Some efforts) None entries r = r ≡ None
TakesLengths None ranks entries r = r ≡ None

-- The promise of a call that asks such a question: which words it takes and how many numbers it answers, and not which numbers. There is no other kind.
pub record TakesRoute (kind : ℕ) (words : List ℤ) (r : Option Laid) : Type 0 where
  pub route : kind ≡ 40 → TakesLengths (unsigned_at words 8) (unsigned_at words 9) (unsigned_at words 10) r
  pub other : (kind ≡ 40 → ⊥) → r ≡ None
