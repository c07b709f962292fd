-- A winner tree over a tiles, as a list H: node q, from 1 to a - 1, has the nodes 2q and 2q + 1 below it, and the leaf of tile i stands at a + i.
use Rattle.std.specs.Prelude.{◌≡◌, List, ℕ, ◌+◌, ◌*◌, ◌%◌, ◌≤◌, ◌<◌, min, length, get_or}
use Rattle.engine.specs.Leaves.{indices, shut}

abbrev pub leaf : ℕ → List ℕ → ℕ → ℕ
leaf a H i = get_or H (a + i) 0

-- A node holds the smaller of the two below it.
abbrev pub Node : List ℕ → ℕ → Type 0
Node H q = get_or H q 0 ≡ min (get_or H (2 * q) 0) (get_or H (2 * q + 1) 0)

pub record Winners (a : ℕ) (H : List ℕ) : Type 0 where
  pub some : 0 < a
  pub few : a ≤ indices
  pub room : 2 * a ≤ length H
  pub won : (q : ℕ) → 1 ≤ q → q < a → Node H q

-- The leaf of tile i was set to v, and no other.
pub record Put (a i v : ℕ) (H H' : List ℕ) : Type 0 where
  pub size : length H' ≡ length H
  pub winners : Winners a H'
  pub own : leaf a H' i ≡ v
  pub others : (j : ℕ) → (j ≡ i → ⊥) → leaf a H' j ≡ leaf a H j

-- The tree an engine works on: an open leaf ends in the index of its tile.
pub record Heap (a : ℕ) (H : List ℕ) : Type 0 where
  pub winners : Winners a H
  pub keyed : (i : ℕ) → i < a → leaf a H i < shut → leaf a H i % indices ≡ i
