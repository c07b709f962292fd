-- Two budgets that no least sum reaches make no difference: a table that is right for the smaller one is right for the larger.
use mathlib.Core.List.{List}
use Prim.Native.Nat.{ℕ, ◌-◌, ◌*◌, ◌≤◌, ◌<◌}
use native.Mathlib.Omega.{arith}
use Rattle.paths.specs.Lands.{Land, Walk}
use Rattle.paths.specs.Tables.{Right, Capped}
use Rattle.paths.proofs.ShortWalks.{brief, brief_capped}

pub right_wider : (G : Land) (T : ℕ → ℕ) (s b b' W : ℕ) → s < G.tiles → Capped G W → (G.tiles - 1) * W < G.mark → (G.tiles - 1) * W ≤ b → b ≤ b' → Right G T s b → Right G T s b'
right_wider G T s b b' W hs C hm hb l R =
    record {
      found = λ t h m. let r = R.found t h m in (r.0, omega (arith, r.1));
      missed = λ t h m. let r = R.missed t h m in (r.0, λ ds x p i. absurd (none t h m ds x p));
    }
  where
    -- No walk leads to a tile with the mark: one without rounds would be within the budget, and below the mark.
    none : (t : ℕ) → t < G.tiles → G.mark ≤ T t → (ds : List ℕ) (x : ℕ) → Walk G s ds t x → ⊥
    none t h m ds x p =
        let c = brief hs p in
        let k = brief_capped C hs c in
        omega (arith, k, (R.missed t h m).1 c.dirs c.sum c.path (omega (arith, k)))
