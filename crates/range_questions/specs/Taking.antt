-- How many words the questions about tables take, and how many numbers their answers have.
use Rattle.std.specs.Prelude.{◌≡◌, List, ℕ, ◌+◌, ℤ, Option, Some, None}
use Rattle.questions.specs.Answers.{Says}
use Rattle.questions.specs.Arguments.{unsigned_at}
use Rattle.questions.specs.declared.answer.Laid.{Laid}

-- What is said of a question with so many efforts and totals. The riding range takes nine words and the efforts, and answers a number and the totals; the totals check takes the
-- totals too, and answers a number and an index. There is no other kind.
pub record TakesOf (kind efforts totals : ℕ) (r : Option Laid) : Type 0 where
  pub range : kind ≡ 30 → Says (9 + efforts) (totals + 1) r
  pub check : kind ≡ 31 → Says (9 + efforts + totals) 2 r
  pub other : (kind ≡ 30 → ⊥) → (kind ≡ 31 → ⊥) → r ≡ None

-- The same, where the two lengths are words of the line that may be missing.
abbrev pub TakesLengths : ℕ → Option ℕ → Option ℕ → Option Laid → Type 0
TakesLengths kind (Some efforts) (Some totals) r = TakesOf kind efforts totals r
TakesLengths kind (Some efforts) None r = r ≡ None
TakesLengths kind None totals r = r ≡ None

-- The promise of a call that asks such a question: which words it takes and how many numbers it answers, and not which numbers.
abbrev pub TakesTables : ℕ → List ℤ → Option Laid → Type 0
TakesTables kind words r = TakesLengths kind (unsigned_at words 7) (unsigned_at words 8) r
