-- Passes over a table: the tiles of a visiting list in turn, each set by the neighbour rule from the newest entries.
use Rattle.std.specs.Prelude.{◌≡◌, ℕ, zero, suc, ◌<◌, set, replicate}
use mathlib.Core.List.{List, [], ◌∷◌, Memᴰ}
use Rattle.paths.specs.Lands.{Land, Step}
use Rattle.paths.specs.Tables.{at}
use Rattle.paths.specs.NeighborRule.{want}

-- Where passes begin: 0 at s, the mark elsewhere.
unfoldable pub begin : Land → ℕ → List ℕ
begin G s = set (replicate G.tiles G.mark) s 0

-- One tile set by the rule.
unfoldable pub relax : Land → ℕ → ℕ → List ℕ → ℕ → List ℕ
relax G s b L t = set L t (want G (at L) s b t)

-- One pass over a list of tiles, and k passes.
unfoldable pub pass : Land → ℕ → ℕ → List ℕ → List ℕ → List ℕ
pass G s b [] L = L
pass G s b (t ∷ order) L = pass G s b order (relax G s b L t)

unfoldable pub passes : Land → ℕ → ℕ → List ℕ → ℕ → List ℕ → List ℕ
passes G s b order zero L = L
passes G s b order (suc k) L = pass G s b order (passes G s b order k L)

-- The list is of tiles, and has every tile into which an open step leads, but perhaps the start. It may have others, and any more than once.
pub record Covers (G : Land) (s : ℕ) (order : List ℕ) : Type 0 where
  pub on : (t : ℕ) → Memᴰ t order → t < G.tiles
  pub all : (u d t w : ℕ) → Step G u d t w → (t ≡ s → ⊥) → Memᴰ t order
