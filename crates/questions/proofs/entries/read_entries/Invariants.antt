-- What is left to read says and writes what the whole does.
use Rattle.std.proofs.Common.{◌≡◌, ◌+◌, ◌-◌, length}
use Rattle.questions.specs.Entries.{all_entries, with_entries}
use Rattle.questions.proofs.entries.read_entries.Given as goal

abbrev pub invariant-loop-i : goal.invariant-loop-i
invariant-loop-i g l =
    let of_word = g.T.Number.of_word in
    let n = length l.initial.entries in
    record {
      says : all_entries of_word l.words (l.from + l.i) (n - l.i) ≡ all_entries of_word l.words l.from n;
      puts : with_entries of_word l.words (l.from + l.i) l.i (n - l.i) l.entries ≡ with_entries of_word l.words l.from 0 n l.initial.entries;
    }
