-- What setting one leaf does to the measure, what the root says, and the tree at first.
use mathlib.Core.Path.{◌≡◌, refl, sym, ap, ◌∙◌}
use Prim.Native.Nat.{ℕ, zero, suc, ◌+◌, ◌%◌, ◌≤◌, ◌<◌}
use native.Mathlib.Decide.{ℕ_discrete}
use native.Mathlib.Omega.{arith}
use lib.ListN.{get_or, replicate, get_or-replicate}
use Rattle.engine.specs.Leaves.{indices, shut, largest_total, largest_area, room, unreached, total_of, weight_of}
use Rattle.engine.specs.Trees.{leaf, Heap}
use Rattle.engine.specs.Settling.{leaf_of, totals, Sets, live, sum, work}
use Rattle.engine.specs.declared.trees.Tree.{Tree}
use Rattle.engine.proofs.Totals.{total_below}
use Rattle.engine.proofs.Nodes.{root_least, root_held, winners_alike}

-- The tree in which no tile has been reached.
module _ (a : ℕ) (some : 0 < a) (few : a ≤ largest_area) where
  pub leaf_first : (i : ℕ) → i < a → leaf a (replicate room unreached) i ≡ unreached
  leaf_first i h = get_or-replicate room (a + i) unreached 0 (omega arith)

  pub heap_first : Heap a (replicate room unreached)
  heap_first = record { winners = winners_alike a room unreached some (omega arith) (omega arith); keyed = λ i h o. absurd (omega (arith, leaf_first i h)) }

-- Two sums whose terms differ at i only.
module _ (f g : ℕ → ℕ) (i : ℕ) (others : (k : ℕ) → (k ≡ i → ⊥) → g k ≡ f k) where
  before : (k : ℕ) → k ≤ i → sum g k ≡ sum f k
  unfolding sum
  before zero h = refl
  before (suc k) h = omega (arith, before k (omega arith), others k (omega arith))

  sum_but : (k : ℕ) → i < k → sum g k + f i ≡ sum f k + g i
  unfolding sum
  sum_but zero h = absurd (omega arith)
  sum_but (suc k) h =
      elim (ℕ_discrete k i) [
        | yes e ↦ omega (arith, before k (omega arith), ap f e, ap g e)
        | no n ↦ omega (arith, sum_but k (omega arith), others k n)
      ]

-- One leaf was set.
pub work_set : (i v : ℕ) (T T' : Tree) → Sets i v T T' → i < T.tiles → work T' + weight_of (leaf_of T i) ≡ work T + weight_of v
work_set i v T T' p h =
    let e = ap weight_of p.own in
    let n = ap (sum (λ k. weight_of (leaf_of T' k))) p.tiles in
    omega (arith, n, e, sum_but (λ k. weight_of (leaf_of T k)) (λ k. weight_of (leaf_of T' k)) i (λ k m. ap weight_of (p.others k m)) T.tiles h)

-- A root that is not open: no tile is.
pub root_shut : (T : Tree) → shut ≤ get_or T.nodes 1 0 → (u e : ℕ) → live T u e → ⊥
root_shut T h u e o = omega (arith, root_least T.tiles T.nodes T.heap.winners u o.0)

-- Tile u is open, and its total is `base`.
pub record Open (T : Tree) (u base : ℕ) : Type 0 where
  pub on : u < T.tiles
  pub low : leaf_of T u < shut
  pub is : totals T u ≡ base
  pub small : base ≤ largest_total

-- A root that is open is the leaf of the tile whose index it ends in.
pub root_open : (T : Tree) (u base : ℕ) → get_or T.nodes 1 0 < shut → u ≡ get_or T.nodes 1 0 % indices → base ≡ total_of (get_or T.nodes 1 0) → Open T u base
root_open T u base l eu eb =
    let j = root_held T.tiles T.nodes T.heap.winners in
    let k : u ≡ j.0 = eu ∙ ap (λ (z : ℕ). z % indices) (sym j.2) ∙ T.heap.keyed j.0 j.1 (omega arith) in
    rw k (record { on = j.1; low = omega arith; is = ap total_of j.2 ∙ sym eb; small = omega (arith, total_below (get_or T.nodes 1 0) l) })
