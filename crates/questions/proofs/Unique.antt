-- Every promise of this crate is an equation, or two, of the answer with what the arguments make: so two answers that meet it are equal, and so are two contents of a lent array at exit.
use Rattle.std.specs.Prelude.{◌≡◌, Bool, List, ℕ, ℤ, pos, length, set, Option, Result, Ok, Err}
use Rattle.std.proofs.Common.{sym, ◌∙◌}
use Rattle.hexes.specs.Answers.{Tells}
use Rattle.hexes.specs.declared.Tile.{Tile}
use Rattle.hexes.specs.declared.refusal.Refusal.{Refusal}
use Rattle.questions.specs.Arguments.{argument_at, signed_at, unsigned_at, tile_of}
use Rattle.questions.specs.Entries.{all_entries, with_entries, all_efforts, with_efforts}
use Rattle.questions.specs.Answers.{answered, told_of, of_tile, word_of, laid_from, laid_of, laid_out}
use Rattle.questions.specs.declared.answer.Answer.{Answer}
use Rattle.questions.specs.declared.answer.Laid.{Laid}
use Rattle.questions.specs.declared.answer.Numbers.{Numbers}

-- The law that each of them is.
unique : {A : Type 0} (a : A) {r s : A} → r ≡ a → s ≡ a → r ≡ s
unique a p q = p ∙ sym q

-- Of the two calls of a number: what a word is read as, and the word that says it.
pub of_word_unique : {A : Type 0} (of_word : ℤ → Option A) (word : ℤ) {r s : Option A} → r ≡ of_word word → s ≡ of_word word → r ≡ s
of_word_unique of_word word = unique (of_word word)

pub word_unique : {A : Type 0} (word : A → ℤ) (number : A) {r s : ℤ} → r ≡ word number → s ≡ word number → r ≡ s
word_unique word number = unique (word number)

pub argument_at_unique : {A : Type 0} (of_word : ℤ → Option A) (words : List ℤ) (at : ℕ) {r s : Option A} → r ≡ argument_at of_word words at → s ≡ argument_at of_word words at → r ≡ s
argument_at_unique of_word words at = unique (argument_at of_word words at)

-- The same of a signed and of an unsigned number.
pub signed_at_unique : (words : List ℤ) (at : ℕ) {r s : Option ℤ} → r ≡ signed_at words at → s ≡ signed_at words at → r ≡ s
signed_at_unique words at = unique (signed_at words at)

pub unsigned_at_unique : (words : List ℤ) (at : ℕ) {r s : Option ℕ} → r ≡ unsigned_at words at → s ≡ unsigned_at words at → r ≡ s
unsigned_at_unique words at = unique (unsigned_at words at)

pub tile_at_unique : (words : List ℤ) (i j : ℕ) {r s : Option Tile} → r ≡ tile_of (signed_at words i) (signed_at words j) → s ≡ tile_of (signed_at words i) (signed_at words j) → r ≡ s
tile_at_unique words i j = unique (tile_of (signed_at words i) (signed_at words j))

pub read_entries_unique :
    {A : Type 0} (of_word : ℤ → Option A) (words : List ℤ) (at : ℕ) (entry : List A) {r s : Bool} {x y : List A} →
    r ≡ all_entries of_word words at (length entry) →
    x ≡ with_entries of_word words at 0 (length entry) entry →
    s ≡ all_entries of_word words at (length entry) →
    y ≡ with_entries of_word words at 0 (length entry) entry →
    (r ≡ s) × (x ≡ y)
read_entries_unique of_word words at entry p i q j = (unique (all_entries of_word words at (length entry)) p q, unique (with_entries of_word words at 0 (length entry) entry) i j)

-- The same of efforts.
pub read_efforts_unique :
    (words : List ℤ) (at : ℕ) (entry : List ℕ) {r s : Bool} {x y : List ℕ} →
    r ≡ all_efforts words at (length entry) →
    x ≡ with_efforts words at 0 (length entry) entry →
    s ≡ all_efforts words at (length entry) →
    y ≡ with_efforts words at 0 (length entry) entry →
    (r ≡ s) × (x ≡ y)
read_efforts_unique words at entry p i q j = (unique (all_efforts words at (length entry)) p q, unique (with_efforts words at 0 (length entry) entry) i j)

-- Of `one`, `two` and `three`, which differ in how many numbers they have.
pub numbers_unique : (words : ℕ) (numbers : Numbers) {r s : Answer} → r ≡ answered words numbers → s ≡ answered words numbers → r ≡ s
numbers_unique words numbers = unique (answered words numbers)

pub told_unique : {A : Type 0} (zeros : A) (answer : Result A Refusal) {r s : ℤ × A} → r ≡ told_of zeros answer → s ≡ told_of zeros answer → r ≡ s
told_unique zeros answer = unique (told_of zeros answer)

pub tile_answer_unique : (words : ℕ) (told : Result Tile Refusal) {r s : Answer} → r ≡ of_tile words told → s ≡ of_tile words told → r ≡ s
tile_answer_unique words told = unique (of_tile words told)

-- Of the language's own conversion of a coordinate to a word.
pub wide_unique : (coordinate : ℤ) {r s : ℤ} → r ≡ coordinate → s ≡ coordinate → r ≡ s
wide_unique = unique

pub whole_unique : (number : ℕ) {r s : ℤ} → r ≡ word_of number → s ≡ word_of number → r ≡ s
whole_unique number = unique (word_of number)

pub put_unique : (entry : List ℤ) (at : ℕ) (number : ℤ) {x y : List ℤ} → x ≡ set entry at number → y ≡ set entry at number → x ≡ y
put_unique entry at number = unique (set entry at number)

pub lay_unique : (asked : Option Answer) (entry : List ℤ) {r s : Option Laid} {x y : List ℤ} → r ≡ laid_of asked → x ≡ laid_out asked entry → s ≡ laid_of asked → y ≡ laid_out asked entry → (r ≡ s) × (x ≡ y)
lay_unique asked entry p i q j = (unique (laid_of asked) p q, unique (laid_out asked entry) i j)

pub lay_head_unique :
    (answer : Result ℕ Refusal) (entry : List ℤ) {x y : List ℤ} →
    Tells 0 answer (λ told. x ≡ set (set entry 0 (pos told.number)) 1 (pos told.value)) →
    Tells 0 answer (λ told. y ≡ set (set entry 0 (pos told.number)) 1 (pos told.value)) →
    x ≡ y
lay_head_unique (Ok tiles) entry = unique _
lay_head_unique (Err refusal) entry = unique _

pub lay_entries_unique : {A : Type 0} (word : A → ℤ) (entries : List A) (at : ℕ) (entry : List ℤ) {x y : List ℤ} → x ≡ laid_from word entries at entry → y ≡ laid_from word entries at entry → x ≡ y
lay_entries_unique word entries at entry = unique (laid_from word entries at entry)
