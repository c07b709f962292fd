-- What an engine keeps while it settles tiles: the tree, and the steps that are still to be looked at. It speaks of every land: where a step leads and what it costs is for the land to say.
use Rattle.std.specs.Prelude.{◌≡◌, List, ℕ, zero, suc, ◌+◌, ◌≤◌, ◌<◌, get_or, Option, None}
use Rattle.paths.specs.Lands.{Land, Step}
use Rattle.paths.specs.Engines.{Going}
use Rattle.storage.specs.Leaves.{number_or_none}
use Rattle.storage.specs.declared.Index.{Index}
use Rattle.engine.specs.Leaves.{shut, largest_total, unreached, total_of, weight_of}
use Rattle.engine.specs.Trees.{leaf}
use Rattle.engine.specs.declared.trees.Tree.{Tree}

-- The leaf of a tile.
abbrev pub leaf_of : Tree → ℕ → ℕ
leaf_of T i = leaf T.tiles T.nodes i

-- The table of totals: what the leaves tell.
abbrev pub totals : Tree → ℕ → ℕ
totals T t = total_of (leaf_of T t)

-- No tile has been reached.
abbrev pub Blank : Tree → Type 0
Blank T = (i : ℕ) → i < T.tiles → leaf_of T i ≡ unreached

-- The leaf of tile i was set to v, and no other.
pub record Sets (i v : ℕ) (T T' : Tree) : Type 0 where
  pub tiles : T'.tiles ≡ T.tiles
  pub own : leaf_of T' i ≡ v
  pub others : (j : ℕ) → (j ≡ i → ⊥) → leaf_of T' j ≡ leaf_of T j

-- The step out of x by direction e is still to be looked at, since x is open.
abbrev pub live : Tree → ℕ → ℕ → Type 0
live T x e = (x < T.tiles) × (leaf_of T x < shut)

-- The same, while the steps out of u are looked at: those by directions below k have been.
abbrev pub pend : Tree → ℕ → ℕ → ℕ → ℕ → Type 0
pend T u k x e = live T x e × (x ≡ u → k ≤ e)

-- The measure of the work left, which falls with every tile that is lowered or closed.
unfoldable pub sum : (ℕ → ℕ) → ℕ → ℕ
sum f zero = 0
sum f (suc k) = sum f k + f k

abbrev pub work : Tree → ℕ
work T = sum (λ i. weight_of (leaf_of T i)) T.tiles

-- The step by direction d of six: the tile that it leads to, as the theory numbers it, and what it costs.
abbrev pub step_of : List (Option Index × ℕ) → ℕ → ℕ × ℕ
step_of steps d = let step = get_or steps d (None, 0) in (number_or_none step.0, step.1)

-- Six steps, none of which costs more than a leaf can tell.
abbrev pub Small : List (Option Index × ℕ) → Type 0
Small steps = (d : ℕ) → d < 6 → (step_of steps d).1 ≤ largest_total

-- Out of u by direction d there is at most one step, into t at cost w; it is open if t is a tile and w is not 0.
pub record Leads (G : Land) (u d t w : ℕ) : Type 0 where
  pub only : (y v : ℕ) → Step G u d y v → (y ≡ t) × (v ≡ w)
  pub opens : t < G.tiles → 0 < w → Step G u d t w

-- What is right of the totals on the way to the least sums stays so, and the steps still to be looked at, P, become P'.
abbrev pub Goes : Land → ℕ → Tree → Tree → (ℕ → ℕ → Type 0) → (ℕ → ℕ → Type 0) → Type 0
Goes G b T T' P P' = (s : ℕ) → Going G (totals T) s b P → Going G (totals T') s b P'

-- What looking at steps out of a tile whose total is `base` keeps. It never changes that tile's own leaf.
pub record Kept (base : ℕ) (T T' : Tree) : Type 0 where
  pub tiles : T'.tiles ≡ T.tiles
  pub falls : work T' ≤ work T
  pub stays : (u : ℕ) → totals T u ≡ base → leaf_of T' u ≡ leaf_of T u

-- In every land in which a step out of such a tile leads to t at cost w, that step has been looked at.
abbrev pub Looked : ℕ → ℕ → ℕ → ℕ → Tree → Tree → Type 0
Looked base b t w T T' =
    (G : Land) (u d : ℕ) → G.tiles ≡ T.tiles → Leads G u d t w → totals T u ≡ base → Goes G b T T' (pend T u d) (pend T' u (d + 1))

-- In every land in which these are the six steps out of such a tile, those by directions below k have been looked at.
abbrev pub LookedAround : ℕ → ℕ → List (Option Index × ℕ) → ℕ → Tree → Tree → Type 0
LookedAround base b steps k T T' =
    (G : Land) (u : ℕ) → G.tiles ≡ T.tiles → ((d : ℕ) → d < 6 → Leads G u d (step_of steps d).0 (step_of steps d).1) → totals T u ≡ base
    → Goes G b T T' (pend T u 0) (pend T' u k)
