-- The entries from the index on, laid on what the numbers hold, are all of them laid on what they held.
use Rattle.std.proofs.Common.{◌≡◌, ◌+◌, drop}
use Rattle.questions.specs.Answers.{laid_from}
use Rattle.questions.proofs.answer.lay_entries.Given as goal

abbrev pub invariant-loop-i : goal.invariant-loop-i
invariant-loop-i g l =
    laid_from g.T.Number.word (drop l.i l.entries) (l.from + l.i) l.numbers ≡ laid_from g.T.Number.word l.entries l.from l.initial.numbers
