-- The words of a line as entries of a table, read one after another until one is no entry.
use Rattle.std.specs.Prelude.{Bool, true, ◌&&◌, List, ℕ, zero, suc, ℤ, set, Option, is_some}
use Rattle.std.specs.Option.{option_map_or}
use Rattle.questions.specs.Arguments.{effort_of, argument_at}

-- Are the n words from a place on entries?
abbrev pub all_entries : {A : Type 0} → (ℤ → Option A) → List ℤ → ℕ → ℕ → Bool
all_entries of_word words at zero = true
all_entries of_word words at (suc n) = is_some (argument_at of_word words at) && all_entries of_word words (suc at) n

-- A table with the n words from a place on at entry i and after, up to the first that is no entry.
abbrev pub with_entries : {A : Type 0} → (ℤ → Option A) → List ℤ → ℕ → ℕ → ℕ → List A → List A
with_entries of_word words at i zero entries = entries
with_entries of_word words at i (suc n) entries =
    option_map_or (λ entry. with_entries of_word words (suc at) (suc i) n (set entries i entry)) (argument_at of_word words at) entries

-- The same of efforts.
abbrev pub all_efforts : List ℤ → ℕ → ℕ → Bool
all_efforts = all_entries effort_of

abbrev pub with_efforts : List ℤ → ℕ → ℕ → ℕ → List ℕ → List ℕ
with_efforts = with_entries effort_of
