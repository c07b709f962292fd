-- A worked example, which shows that the definitions mean what the rules say. Seven tiles: 0 is the middle, of effort 5; the six round it have effort 0. From tile 5 to tile
-- 2, on the other side, two steps over the middle cost 5; three steps round it cost 0, by directions 2, 3, 4 or by 4, 3, 2. The best route goes by 2, 3, 4.
use mathlib.Core.Path.{◌≡◌, refl}
use mathlib.Core.Bool.{Bool, true, false, cond}
use mathlib.Core.List.{List, [], ◌∷◌}
use Prim.Native.Nat.{ℕ, zero, suc, ◌<◌}
use native.Mathlib.Decide.{ℕ_discrete}
use native.Mathlib.Omega.{arith}
use borrow.Author.Tests.{eq-eqb, ne_eqb}
use lib.Dec.{eqb}
use lib.ListN.{get_or}
use Rattle.paths.specs.Lands.{Land}
use Rattle.paths.specs.Tables.{at}
use Rattle.paths.specs.NeighborRule.{offer, best, want}
use Rattle.paths.proofs.RuleIsRight.{rule_right}
use Rattle.routes.specs.Grounds.{Ground, even_ground, OpenTile}
use Rattle.routes.specs.Routes.{BestRoute}
use Rattle.routes.specs.Ranks.{multiplier, no_rank, Ranks, Fits}
use Rattle.routes.specs.Turned.{turned, RightSums}
use Rattle.routes.specs.Descents.{Taken, Descent, arrived, down}
use Rattle.routes.proofs.RankTables.{sums_ranks}
use Rattle.routes.proofs.DownIsBest.{down_best}

-- The six neighbours of each tile, by direction; 7 says that there is none.
abbrev neighbors : List (List ℕ)
neighbors =
    (5 ∷ 4 ∷ 6 ∷ 2 ∷ 3 ∷ 1 ∷ [])
    ∷ (7 ∷ 5 ∷ 0 ∷ 3 ∷ 7 ∷ 7 ∷ [])
    ∷ (0 ∷ 6 ∷ 7 ∷ 7 ∷ 7 ∷ 3 ∷ [])
    ∷ (1 ∷ 0 ∷ 2 ∷ 7 ∷ 7 ∷ 7 ∷ [])
    ∷ (7 ∷ 7 ∷ 7 ∷ 6 ∷ 0 ∷ 5 ∷ [])
    ∷ (7 ∷ 7 ∷ 4 ∷ 0 ∷ 1 ∷ 7 ∷ [])
    ∷ (4 ∷ 7 ∷ 7 ∷ 7 ∷ 2 ∷ 0 ∷ [])
    ∷ []

abbrev seven : Ground
seven = even_ground 7 65535 (λ u d. get_or (get_or neighbors u []) d 7) (at (5 ∷ 0 ∷ 0 ∷ 0 ∷ 0 ∷ 0 ∷ 0 ∷ []))

abbrev land : Land
land = turned seven multiplier

abbrev ranks : List ℕ
ranks = 1 ∷ 2 ∷ 0 ∷ 1 ∷ 2 ∷ 3 ∷ 1 ∷ []

fits : Fits seven
fits = record { tiles = omega arith; efforts = omega arith }

end : OpenTile seven 2
end = record { on = omega arith; is_open = refl }

sums : RightSums seven 2 (at ranks)
unfolding want best
sums = rule_right land (at ranks) 2 no_rank (omega arith) (record { each = each })
  where
    each : (t : ℕ) → t < 7 → at ranks t ≡ want land (at ranks) 2 no_rank t
    each zero h = refl
    each (suc zero) h = refl
    each (suc (suc zero)) h = refl
    each (suc (suc (suc zero))) h = refl
    each (suc (suc (suc (suc zero)))) h = refl
    each (suc (suc (suc (suc (suc zero))))) h = refl
    each (suc (suc (suc (suc (suc (suc zero)))))) h = refl
    each (suc (suc (suc (suc (suc (suc (suc t))))))) h = absurd (omega arith)

pub table : Ranks seven 2 (at ranks)
table = sums_ranks fits end sums

-- x is not one of the first n values of f. This can be computed, and so tells that a direction is the smallest.
abbrev absent : (ℕ → ℕ) → ℕ → ℕ → Bool
absent f x zero = true
absent f x (suc n) = cond (eqb (f n) x) false (absent f x n)

no_value : (f : ℕ → ℕ) (x n : ℕ) → absent f x n ≡ true → (k : ℕ) → k < n → f k ≡ x → ⊥
no_value f x zero q k h z = omega arith
no_value f x (suc n) q k h z = go (ℕ_discrete (f n) x) (ℕ_discrete k n) (λ p. no_value f x n p k)
  where
    go : Dec (f n ≡ x) → Dec (k ≡ n) → (absent f x n ≡ true → k < n → f k ≡ x → ⊥) → ⊥
    go (yes y) p rec =
        let false_true : ◌≡◌ {A = ℕ} 0 1 = cc (q, eq-eqb (f n) x y) in
        omega arith
    go (no y) (yes p) rec = y (rw p at z)
    go (no y) (no p) rec = rec (rw (ne_eqb (f n) x y) at q) (omega arith) z

takes : (u d : ℕ) → d < 6 → offer land (at ranks) u d ≡ at ranks u → absent (offer land (at ranks) u) (at ranks u) d ≡ true → Taken land (at ranks) u d
takes u d h q n = record { dir = h; makes = q; smallest = no_value (offer land (at ranks) u) (at ranks u) d n }

way : Descent land (at ranks) 2 5 (2 ∷ 3 ∷ 4 ∷ [])
way =
    down (λ (z : ◌≡◌ {A = ℕ} 5 2). omega arith) (takes 5 2 (omega arith) refl refl)
    (down (λ (z : ◌≡◌ {A = ℕ} 4 2). omega arith) (takes 4 3 (omega arith) refl refl)
    (down (λ (z : ◌≡◌ {A = ℕ} 6 2). omega arith) (takes 6 4 (omega arith) refl refl) arrived))

pub round : BestRoute seven 5 2 (2 ∷ 3 ∷ 4 ∷ []) 0
round = (down_best fits table (omega arith) (omega arith) way).best
