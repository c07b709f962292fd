-- The words of a line as arguments: a word is one where the line has it and the type of the argument holds it.
use Rattle.std.specs.Prelude.{cond, List, ℕ, ℤ, pos, negsuc, nat_abs, Option, Some, None, slice_get, option_and_then}
use Rattle.std.specs.Int.Signed.{lt_z}
use Rattle.hexes.specs.Limits.{barred}
use Rattle.hexes.specs.Tiles.{tile}
use Rattle.hexes.specs.declared.Tile.{Tile}

-- From -2^31 to 2^31 - 1; `negsuc 2147483647` is -2^31.
abbrev pub signed_of : ℤ → Option ℤ
signed_of word = cond (lt_z word (negsuc 2147483647)) None (cond (lt_z (pos 2147483647) word) None (Some word))

-- From 0 to 2^32 - 1.
abbrev pub unsigned_of : ℤ → Option ℕ
unsigned_of word = cond (lt_z word (pos 0)) None (cond (lt_z (pos 4294967295) word) None (Some (nat_abs word)))

-- From 0 to the effort that bars a tile.
abbrev pub effort_of : ℤ → Option ℕ
effort_of word = cond (lt_z word (pos 0)) None (cond (lt_z (pos barred) word) None (Some (nat_abs word)))

-- The word at a place, as what `of_word` makes of it.
abbrev pub argument_at : {A : Type 0} → (ℤ → Option A) → List ℤ → ℕ → Option A
argument_at of_word words at = option_and_then of_word (slice_get words at)

abbrev pub signed_at : List ℤ → ℕ → Option ℤ
signed_at = argument_at signed_of

abbrev pub unsigned_at : List ℤ → ℕ → Option ℕ
unsigned_at = argument_at unsigned_of

-- Two words are a tile if both are signed numbers.
abbrev pub tile_of : Option ℤ → Option ℤ → Option Tile
tile_of (Some x) (Some y) = Some (tile x y)
tile_of (Some x) None = None
tile_of None y = None
