-- A land is a finite set of tiles, each with six ways in, which may be shut; a walk is a list of open steps with its sum. Nothing here speaks of hexagons.
use Rattle.std.specs.Prelude.{◌≡◌, List, [], ◌∷◌, ℕ, ◌+◌, ◌≤◌, ◌<◌}

-- The tiles are 0 to tiles - 1. The step of direction d, 0 to 5, into tile t comes from tile `prev t d` and costs `cost t d`. So a `prev` that is no tile says that there
-- is no such neighbour, and a cost of 0 shuts the step. `mark` stands for 'no way' in a table of totals.
pub record Land : Type 0 where
  pub tiles : ℕ
  pub mark : ℕ
  pub prev : ℕ → ℕ → ℕ
  pub cost : ℕ → ℕ → ℕ

-- The same land with another mark.
abbrev pub remarked : Land → ℕ → Land
remarked G m = record { tiles = G.tiles; mark = m; prev = G.prev; cost = G.cost }

-- The step of direction d from tile u into tile t is open and costs w.
pub record Step (G : Land) (u d t w : ℕ) : Type 0 where
  pub into : t < G.tiles
  pub dir : d < 6
  pub from : G.prev t d ≡ u
  pub on : u < G.tiles
  pub price : G.cost t d ≡ w
  pub paid : 0 < w

-- A walk from s, with the list of its directions, the last one first, the tile to which it leads, and its sum.
pub data Walk (G : Land) (s : ℕ) : List ℕ → ℕ → ℕ → Type 0 where
  here : Walk G s [] s 0
  then : {ds : List ℕ} {u v d t w : ℕ} → Walk G s ds u v → Step G u d t w → Walk G s (d ∷ ds) t (v + w)

-- v is the least sum of the walks from s to t.
pub record Least (G : Land) (s t v : ℕ) : Type 0 where
  pub dirs : List ℕ
  pub path : Walk G s dirs t v
  pub least : (ds : List ℕ) (x : ℕ) → Walk G s ds t x → v ≤ x
