-- Each public call's promise leaves one outcome: two answers that meet it are equal, and so are the runs at exit. For the listings it follows from what is shown of every list.
use mathlib.Core.Path.{◌≡◌, sym, ◌∙◌}
use mathlib.Core.List.{List}
use Prim.Native.Nat.{ℕ}
use lib.IntN.{ℤ}
use Rattle.hexes.specs.Answers.{Answer}
use Rattle.hexes.specs.declared.Tile.{Tile}
use Rattle.runs.specs.Runs.{Lists}
use Rattle.runs.proofs.Unique.{lists_unique}
use Rattle.rings.specs.Counts.{ring_count, wedge_count}
use Rattle.rings.specs.Judged.{refusal_of}
use Rattle.rings.specs.Rings.{ring, edge, spiral, wedge, corner_wedge}

module _ (entry : List ℤ) (r s : Answer ℕ) (x y : List ℤ) (c : Tile) where
  pub ring_unique : (n d sense : ℕ) → Lists (refusal_of c n n d sense) (ring c d sense n) entry r x → Lists (refusal_of c n n d sense) (ring c d sense n) entry s y → (r ≡ s) × (x ≡ y)
  ring_unique n d sense = lists_unique _ _ entry r s x y

  pub ring_edge_unique : (n v sense : ℕ) → Lists (refusal_of c n n v sense) (edge c v sense n) entry r x → Lists (refusal_of c n n v sense) (edge c v sense n) entry s y → (r ≡ s) × (x ≡ y)
  ring_edge_unique n v sense = lists_unique _ _ entry r s x y

  pub wedge_unique : (first last v sense : ℕ) → Lists (refusal_of c first last v sense) (wedge c first last v sense) entry r x → Lists (refusal_of c first last v sense) (wedge c first last v sense) entry s y → (r ≡ s) × (x ≡ y)
  wedge_unique first last v sense = lists_unique _ _ entry r s x y

  pub corner_wedge_unique : (first last d : ℕ) → Lists (refusal_of c first last d 0) (corner_wedge c first last d) entry r x → Lists (refusal_of c first last d 0) (corner_wedge c first last d) entry s y → (r ≡ s) × (x ≡ y)
  corner_wedge_unique first last d = lists_unique _ _ entry r s x y

  pub spiral_unique : (first last d sense : ℕ) → Lists (refusal_of c first last d sense) (spiral c first last d sense) entry r x → Lists (refusal_of c first last d sense) (spiral c first last d sense) entry s y → (r ≡ s) × (x ≡ y)
  spiral_unique first last d sense = lists_unique _ _ entry r s x y

pub ring_count_unique : (n : ℕ) {a b : ℕ} → a ≡ ring_count n → b ≡ ring_count n → a ≡ b
ring_count_unique n p q = p ∙ sym q

pub wedge_count_unique : (n : ℕ) {a b : ℕ} → a ≡ wedge_count n → b ≡ wedge_count n → a ≡ b
wedge_count_unique n p q = p ∙ sym q
