-- Going down a table of totals from a tile to the start of its walks, always by the smallest direction number that the table allows.
use Rattle.std.specs.Prelude.{◌≡◌, List, [], ◌∷◌, ℕ, ◌<◌}
use Rattle.paths.specs.Lands.{Land}
use Rattle.paths.specs.NeighborRule.{offer}

-- The direction to take from u: the smallest by which the neighbour's entry and the step make up the entry of u.
pub record Taken (L : Land) (T : ℕ → ℕ) (u d : ℕ) : Type 0 where
  pub dir : d < 6
  pub makes : offer L T u d ≡ T u
  pub smallest : (k : ℕ) → k < d → offer L T u k ≡ T u → ⊥

-- The list of the directions taken from u on, until e.
pub data Descent (L : Land) (T : ℕ → ℕ) (e : ℕ) : ℕ → List ℕ → Type 0 where
  arrived : Descent L T e e []
  down : {u d : ℕ} {ds : List ℕ} → (u ≡ e → ⊥) → Taken L T u d → Descent L T e (L.prev u d) ds → Descent L T e u (d ∷ ds)
