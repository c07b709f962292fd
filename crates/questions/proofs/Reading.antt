-- How the definitions of entries follow the loop that reads them: what the next word says and writes, if it is an entry and if it is none.
use Rattle.std.proofs.Common.{add-one, ◌≡◌, List, ℕ, suc, ◌+◌, ◌≤◌, min, length, set, arith, ℤ, Option, Some, None}
use Rattle.std.proofs.lemmas.Option.{slice_get_past}
use Rattle.questions.specs.Arguments.{argument_at}
use Rattle.questions.specs.Entries.{all_entries, with_entries}

-- i words were read, and n are left, of which m come after the next. r is what was told of its place, which is cut down to the largest there is: that changes nothing, since no line
-- is so long.
module _
    {A : Type 0} (of_word : ℤ → Option A) (words : List ℤ) {place : ℕ} {r : Option A} (from i n m : ℕ) (entries : List A)
    (cut : place ≡ min (from + i) 18446744073709551615) (short : length words ≤ 18446744073709551615) (told : r ≡ argument_at of_word words place) (left : n ≡ suc m) where
  here : argument_at of_word words (from + i) ≡ r
  here = grind (arith, slice_get_past)

  further : from + (i + 1) ≡ suc (from + i)
  further = omega arith

  pub none_put : r ≡ None → entries ≡ with_entries of_word words (from + i) i n entries
  none_put e = rw (left, here, e)

  pub more_said : {a : A} → r ≡ Some a → all_entries of_word words (from + (i + 1)) m ≡ all_entries of_word words (from + i) n
  more_said e = rw (left, here, e, further)

  pub more_put : {a : A} → r ≡ Some a → with_entries of_word words (from + (i + 1)) (i + 1) m (set entries i a) ≡ with_entries of_word words (from + i) i n entries
  more_put e = rw (left, here, e, further, add-one)
