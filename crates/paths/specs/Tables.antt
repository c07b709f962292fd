-- When a table of totals is right: each entry is the least sum of the walks from the start where that is within the budget, else the mark.
use Rattle.std.specs.Prelude.{◌≡◌, List, ℕ, ◌≤◌, ◌<◌, get_or}
use Rattle.paths.specs.Lands.{Land, Step, Walk, Least}

-- The entry of tile t in a table that is a list. (0 stands past the list's end, where no tile of the land is.)
abbrev pub at : List ℕ → ℕ → ℕ
at L t = get_or L t 0

-- The table T is right for the start s and the budget b: an entry below the mark is the least sum, and within the budget; any other is the mark, and no walk within the
-- budget has a sum below the mark.
pub record Right (G : Land) (T : ℕ → ℕ) (s b : ℕ) : Type 0 where
  pub found : (t : ℕ) → t < G.tiles → T t < G.mark → Least G s t (T t) × (T t ≤ b)
  pub missed : (t : ℕ) → t < G.tiles → G.mark ≤ T t → (T t ≡ G.mark) × ((ds : List ℕ) (x : ℕ) → Walk G s ds t x → x ≤ b → G.mark ≤ x)

-- Right in plain words, in which no sum is compared with the mark: the least sum where it is within the budget, and the mark where every walk is beyond it.
-- `Rattle.paths.proofs.PlainWords` shows that the two agree where no least sum reaches the mark.
pub record Plain (G : Land) (T : ℕ → ℕ) (s b : ℕ) : Type 0 where
  pub near : (t : ℕ) → t < G.tiles → (v : ℕ) → Least G s t v → v ≤ b → T t ≡ v
  pub far : (t : ℕ) → t < G.tiles → ((ds : List ℕ) (x : ℕ) → Walk G s ds t x → b < x) → T t ≡ G.mark

-- No step costs more than W. Then no least sum is above (tiles - 1) * W.
pub record Capped (G : Land) (W : ℕ) : Type 0 where
  pub cap : (u d t w : ℕ) → Step G u d t w → w ≤ W
