-- A list of tiles goes to a lent run of signed 32-bit numbers, x then y; entries past the list are unchanged. The number answered is the number of tiles.
-- A call that lists is refused by its arguments first; then by 7, where the run has fewer entries than twice the tiles; a refused call leaves the run as it was.
use Rattle.std.specs.Prelude.{◌≡◌, List, [], ◌∷◌, ◌++◌, ℕ, zero, suc, ◌+◌, ◌*◌, ◌<◌, ◌≤◌, leb, ℤ, length, take, drop}
use Rattle.hexes.specs.Answers.{Told, Answer, Tells, accepted, refused, provided}
use Rattle.hexes.specs.Refusals.{run_too_short}
use Rattle.hexes.specs.declared.Tile.{Tile}

-- The entries of a list of tiles.
unfoldable pub entries : List Tile → List ℤ
entries [] = []
entries (t ∷ tiles) = t.x ∷ t.y ∷ entries tiles

-- A run that held `run`, with entries written from place `at` on.
abbrev pub written : List ℤ → ℕ → List ℤ → List ℤ
written run at new = take at run ++ new ++ drop (at + length new) run

-- What a call tells that is asked to list `tiles` to a run of so many entries, where `number` is the refusal of its arguments, 0 if there is none.
unfoldable pub listing : ℕ → List Tile → ℕ → Told ℕ
listing zero tiles room = provided (leb (2 * length tiles) room) (refused 0 run_too_short) (accepted (length tiles))
listing (suc number) tiles room = refused 0 (suc number)

-- What the run holds then: the list before what stood behind it, or, with a refusal, what it held.
unfoldable pub listed : ℕ → List Tile → List ℤ → List ℤ
listed zero tiles run = written run 0 (entries tiles)
listed (suc number) tiles run = run

-- The promise of a call that lists: its answer, which is the number of tiles listed or a refusal, and the run at exit.
pub record Lists (number : ℕ) (tiles : List Tile) (entry : List ℤ) (r : Answer ℕ) (exit : List ℤ) : Type 0 where
  pub told : Tells 0 r (λ told. told ≡ listing number tiles (length entry))
  pub holds : exit ≡ listed (listing number tiles (length entry)).number tiles entry

-- What `put` does to a run: where there is room for a tile from place `at` on, it stands there and the next place is two further; else nothing changes.
pub record Put (entry : List ℤ) (at : ℕ) (tile : Tile) (next : ℕ) (exit : List ℤ) : Type 0 where
  pub room : at + 2 ≤ length entry → (next ≡ at + 2) × (exit ≡ written entry at (tile.x ∷ tile.y ∷ []))
  pub no_room : length entry < at + 2 → (next ≡ at) × (exit ≡ entry)
