-- The neighbour rule: an entry is the best offer of the tile's six ways in. It can be tested tile by tile, and holds exactly if the table is right
-- (`Rattle.paths.proofs.RuleIsRight`).
use Rattle.std.specs.Prelude.{◌≡◌, cond, ℕ, zero, suc, ◌+◌, ◌<◌, min, eqb, leb, ltb}
use Rattle.paths.specs.Lands.{Land}

-- The offer to t by direction d: the entry of the tile that the step comes from and the step's cost, or the mark if the step is not open.
abbrev pub offer : Land → (ℕ → ℕ) → ℕ → ℕ → ℕ
offer G T t d = cond (ltb (G.prev t d) G.tiles) (cond (ltb 0 (G.cost t d)) (T (G.prev t d) + G.cost t d) G.mark) G.mark

-- The best offer to t by the directions below k; never above the mark.
unfoldable pub best : Land → (ℕ → ℕ) → ℕ → ℕ → ℕ
best G T t zero = G.mark
best G T t (suc k) = min (best G T t k) (offer G T t k)

-- What the rule wants at t: 0 at the start; elsewhere the best offer if it is within the budget, else the mark.
unfoldable pub want : Land → (ℕ → ℕ) → ℕ → ℕ → ℕ → ℕ
want G T s b t = cond (eqb t s) 0 (cond (leb (best G T t 6) b) (best G T t 6) G.mark)

-- The table T keeps the rule at every tile.
pub record Rule (G : Land) (T : ℕ → ℕ) (s b : ℕ) : Type 0 where
  pub each : (t : ℕ) → t < G.tiles → T t ≡ want G T s b t
