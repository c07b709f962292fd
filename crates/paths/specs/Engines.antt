-- Engines that lower entries by single steps, in any order: what holds on the way, and where they may stop. `Rattle.paths.proofs.Settling` shows that a table is right then.
use Rattle.std.specs.Prelude.{◌≡◌, List, ℕ, ◌+◌, ◌≤◌, ◌<◌}
use Rattle.paths.specs.Lands.{Land, Step, Walk}

-- v is the sum of some walk to t, and within the budget.
abbrev pub Reached : Land → ℕ → ℕ → ℕ → ℕ → Type 0
Reached G s b t v = ((ds : List ℕ) × Walk G s ds t v) × (v ≤ b)

-- The start has 0, an entry below the mark is the sum of some walk, no entry is above the mark, and no open step lowers an entry within the budget.
pub record Settled (G : Land) (T : ℕ → ℕ) (s b : ℕ) : Type 0 where
  pub home : T s ≡ 0
  pub sound : (t : ℕ) → t < G.tiles → T t < G.mark → Reached G s b t (T t)
  pub blank : (t : ℕ) → t < G.tiles → T t ≤ G.mark
  pub still : (u d t w : ℕ) → Step G u d t w → T u < G.mark → T u + w ≤ b → T t ≤ T u + w

-- The same on the way, but for the steps that are still to be looked at: `P u d` says so of the step out of u by direction d.
pub record Going (G : Land) (T : ℕ → ℕ) (s b : ℕ) (P : ℕ → ℕ → Type 0) : Type 0 where
  pub home : T s ≡ 0
  pub sound : (t : ℕ) → t < G.tiles → T t < G.mark → Reached G s b t (T t)
  pub blank : (t : ℕ) → t < G.tiles → T t ≤ G.mark
  pub still : (u d t w : ℕ) → Step G u d t w → (P u d → ⊥) → T u < G.mark → T u + w ≤ b → T t ≤ T u + w
