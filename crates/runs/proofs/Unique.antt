-- Each public call's promise leaves one outcome: two answers that meet it are equal, and so are the runs at exit. Of a call that lists, whatever it lists, this is shown once.
use mathlib.Core.Path.{◌≡◌, refl, sym, ◌∙◌}
use mathlib.Core.List.{List}
use Prim.Native.Nat.{ℕ, ◌+◌, ◌*◌, ◌<◌, ◌≤◌}
use native.Mathlib.Decide.{dec_le}
use native.Mathlib.Omega.{arith}
use lib.IntN.{ℤ}
use lib.ListN.{length}
use Rattle.std.specs.Prelude.{Ok}
use Rattle.hexes.specs.Answers.{Answer}
use Rattle.hexes.specs.declared.Tile.{Tile}
use Rattle.hexes.proofs.Tells.{one_value, tells_one}
use Rattle.runs.specs.Runs.{entries, written, listing, Lists, Put}
use Rattle.runs.proofs.Ending.{listed_all}

pub lists_unique : (number : ℕ) (tiles : List Tile) (entry : List ℤ) (r s : Answer ℕ) (x y : List ℤ) → Lists number tiles entry r x → Lists number tiles entry s y → (r ≡ s) × (x ≡ y)
lists_unique number tiles entry r s x y p q = (
  tells_one 0 _ (one_value (listing number tiles (length entry))) r s p.told q.told,
  p.holds ∙ sym q.holds,
)

-- So a call that lists cannot refuse, answer another number, or write nothing or too much, where its arguments are fine and there is room.
pub must_list : (tiles : List Tile) (entry : List ℤ) (r : Answer ℕ) (exit : List ℤ) → 2 * length tiles ≤ length entry → Lists 0 tiles entry r exit → (r ≡ Ok (length tiles)) × (exit ≡ written entry 0 (entries tiles))
must_list tiles entry r exit room h =
    lists_unique 0 tiles entry r (Ok (length tiles)) exit (written entry 0 (entries tiles)) h
    (listed_all 0 tiles entry {next = 0 + 2 * length tiles} refl refl room (record { goes = refl; holds = refl }))

pub put_unique : (entry : List ℤ) (at : ℕ) (tile : Tile) (m n : ℕ) (x y : List ℤ) → Put entry at tile m x → Put entry at tile n y → (m ≡ n) × (x ≡ y)
put_unique entry at tile m n x y p q = go (dec_le (at + 2) (length entry))
  where
    go : Dec (at + 2 ≤ length entry) → (m ≡ n) × (x ≡ y)
    go (yes h) = let a = p.room h in let b = q.room h in (a.0 ∙ sym b.0, a.1 ∙ sym b.1)
    go (no h) = let l : length entry < at + 2 = omega arith in let a = p.no_room l in let b = q.no_room l in (a.0 ∙ sym b.0, a.1 ∙ sym b.1)
