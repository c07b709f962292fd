-- What follows from the passes that reach the right table: at the latest the pass whose number is the number of tiles changes nothing, and there is a right table.
use mathlib.Core.Path.{◌≡◌, ◌∙◌}
use mathlib.Core.Logic.{⊎_elim}
use mathlib.Core.List.Memᴰ
use mathlib.Core.List.{List, [], ◌∷◌, Memᴰ}
use Prim.Native.Nat.{ℕ, zero, suc, ◌≤◌, ◌<◌}
use native.Mathlib.Decide.{ℕ_discrete}
use native.Mathlib.Omega.{arith}
use lib.ListN.{length}
use Rattle.paths.specs.Lands.{Land}
use Rattle.paths.specs.Tables.{at, Right}
use Rattle.paths.specs.Passes.{begin, pass, passes, Covers}
use Rattle.paths.proofs.RuleIsRight.{right_rule}
use Rattle.paths.proofs.Visits.{begin_length, passes_length}
use Rattle.paths.proofs.Passes.{passes_right, rule_still}

module _ (G : Land) (s b : ℕ) (hs : s < G.tiles) (order : List ℕ) (C : Covers G s order) where
  pub passes_still : (k : ℕ) → G.tiles ≤ suc k → pass G s b order (passes G s b order k (begin G s)) ≡ passes G s b order k (begin G s)
  passes_still k h =
      let after = passes G s b order k (begin G s) in
      rule_still G s b hs order C after (right_rule G (at after) s b hs (passes_right G s b hs order C k h))

-- There is a right table. A list of all tiles, the last first, covers the land, and passes over it make one.
down_from : ℕ → List ℕ
down_from zero = []
down_from (suc n) = n ∷ down_from n

down_has : (n t : ℕ) → t < n → Memᴰ t (down_from n)
unfolding down_from
down_has zero t h = absurd (omega arith)
down_has (suc n) t h = elim (ℕ_discrete t n) [ yes e ↦ Memᴰ.head e | no e ↦ Memᴰ.tail (down_has n t (omega arith)) ]

down_below : (n t : ℕ) → Memᴰ t (down_from n) → t < n
unfolding down_from
down_below zero t m = absurd (Memᴰ.not-nil m)
down_below (suc n) t m = ⊎_elim (λ e. omega arith) (λ k. omega (arith, down_below n t k)) (Memᴰ.cases_cons m)

pub right_exists : (G : Land) (s b : ℕ) → s < G.tiles → (L : List ℕ) × (length L ≡ G.tiles) × Right G (at L) s b
right_exists G s b hs =
    let order : List ℕ = down_from G.tiles in
    let C : Covers G s order = record { on = down_below G.tiles; all = λ u d t w st e. down_has G.tiles t st.into } in
    (passes G s b order G.tiles (begin G s), passes_length G s b order G.tiles (begin G s) ∙ begin_length G s hs, passes_right G s b hs order C G.tiles (omega arith))
