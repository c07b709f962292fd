-- Passes over a covering list reach the right table, at the latest after one pass fewer than there are tiles; a pass that changes nothing is the end.
use mathlib.Core.Path.{◌≡◌, refl, sym, ap, ◌∙◌}
use mathlib.Core.Logic.{inr}
use mathlib.Core.List.{List, Memᴰ}
use Prim.Native.Nat.{ℕ, zero, suc, ◌≤◌, ◌<◌}
use native.Mathlib.Decide.{dec_lt, ℕ_discrete}
use native.Mathlib.Omega.{arith}
use lib.ListN.{length}
use Rattle.paths.specs.Lands.{Land, Walk, here, then}
use Rattle.paths.specs.Tables.{at, Right}
use Rattle.paths.specs.NeighborRule.{best, want, Rule}
use Rattle.paths.specs.Passes.{begin, pass, passes, Covers}
use Rattle.paths.proofs.Offers.{best_le, maker, Wanted, home, good, gone, wanted, want_home}
use Rattle.paths.proofs.Settling.{right_by}
use Rattle.paths.proofs.RuleIsRight.{Ends, start, last, ends, rule_right}
use Rattle.paths.proofs.ShortWalks.{brief}
use Rattle.paths.proofs.Lowering.{going_begin}
use Rattle.paths.proofs.Visits.{begin_length, begin_home, begin_else, pass_still, passes_length}
use Rattle.paths.proofs.Falling.{pass_each, passes_fall}
use Rattle.paths.proofs.LongerWalks.{Accounted, accounted_pass}

module _ (G : Land) (s b : ℕ) (hs : s < G.tiles) (order : List ℕ) (C : Covers G s order) where
  -- The table after k passes from the beginning.
  abbrev after : ℕ → List ℕ
  after k = passes G s b order k (begin G s)

  after_length : (k : ℕ) → length (after k) ≡ G.tiles
  after_length k = passes_length G s b order k (begin G s) ∙ begin_length G s hs

  -- Every tile of the list was visited: walks may be one step longer.
  accounted_next : (T : ℕ → ℕ) (k : ℕ) → Accounted G T s b k (λ t. Memᴰ t order) → Accounted G T s b (suc k) (λ t. ⊥)
  accounted_next T k S =
      record {
        home = S.home;
        sound = S.sound;
        blank = S.blank;
        old = λ {ds} {t} {v} p l x m. old p l x m (ℕ_discrete t s);
        new = λ {ds} {t} {v} h p l x m. absurd h;
      }
    where
      old : {ds : List ℕ} {t v : ℕ} → Walk G s ds t v → length ds ≤ suc k → v ≤ b → v < G.mark → Dec (t ≡ s) → T t ≤ v
      old p l x m (yes e) = omega (arith, ap T e, S.home)
      old here l x m (no e) = absurd (e refl)
      old (then {u = u} {d = d} {t = t} {w = w} p st) l x m (no e) = S.new (C.all u d t w st e) (then p st) l x m

  pub passes_accounted : (k : ℕ) → Accounted G (at (passes G s b order k (begin G s))) s b k (λ t. ⊥)
  unfolding passes
  passes_accounted zero =
      let S = going_begin G (at (begin G s)) s b (λ u d. Unit {0}) (begin_home G s hs) (begin_else G s hs) (λ d h. tt) in
      record { home = S.home; sound = S.sound; blank = S.blank; old = λ {ds} {t} {v} p l x m. none p l; new = λ {ds} {t} {v} h p l x m. absurd h }
    where
      none : {ds : List ℕ} {t v : ℕ} → Walk G s ds t v → length ds ≤ 0 → at (begin G s) t ≤ v
      none here l = omega (arith, begin_home G s hs)
      none (then p st) l = absurd (omega arith)
  passes_accounted (suc k) =
      accounted_next (at (pass G s b order (after k))) k
      (accounted_pass G s b k order (after k) (λ t. ⊥) (λ t. Memᴰ t order) (after_length k) C.on (λ t m. inr m) (passes_accounted k))

  -- One pass fewer than there are tiles is enough, for no least sum needs a walk of more steps.
  pub passes_right : (k : ℕ) → G.tiles ≤ suc k → Right G (at (passes G s b order k (begin G s))) s b
  passes_right k h = right_by G (at (after k)) s b (passes_accounted k).sound (passes_accounted k).blank low
    where
      low : (ds : List ℕ) (t v : ℕ) → Walk G s ds t v → v ≤ b → v < G.mark → at (after k) t ≤ v
      low ds t v p x m =
          let c = brief hs p in
          omega (arith, c.fits, (passes_accounted k).old c.path (omega (arith, c.few)) (omega (arith, c.fits)) (omega (arith, c.fits)))

  -- A table that keeps the rule is left as it is.
  pub rule_still : (L : List ℕ) → Rule G (at L) s b → pass G s b order L ≡ L
  rule_still L R = pass_still G s b order L (λ t m. R.each t (C.on t m))

  -- A pass that changes nothing is the end: the table keeps the rule, and so is right.
  pub still_rule : (k : ℕ) → pass G s b order (passes G s b order k (begin G s)) ≡ passes G s b order k (begin G s) → Rule G (at (passes G s b order k (begin G s))) s b
  still_rule k q = record { each = λ t h. each t h (ℕ_discrete t s) (dec_lt (best G T t 6) G.mark) (dec_lt (T t) G.mark) }
    where
      T : ℕ → ℕ
      T = at (after k)

      S : Accounted G T s b k (λ t. ⊥)
      S = passes_accounted k

      seen : (t : ℕ) → Memᴰ t order → T t ≡ want G T s b t
      seen = pass_each G s b order (after k) (after_length k) C.on (passes_fall G s b order hs C.on k) q

      -- A walk to a tile other than the start ends in an open step into it, so the tile is of the list.
      came : (t v : ℕ) → (t ≡ s → ⊥) → Ends G s t v → Memᴰ t order
      came t v e (start p) = absurd (e p)
      came t v e (last {u = u} {d = d} {w = w} p st z) = C.all u d t w st e

      unreached : (t : ℕ) → t < G.tiles → (t ≡ s → ⊥) → G.mark ≤ best G T t 6 → G.mark ≤ T t → Wanted G T s b t (want G T s b t) → T t ≡ want G T s b t
      unreached t h e m n (home p z) = absurd (e p)
      unreached t h e m n (good p l z) = omega (arith, S.blank t h, best_le G T t 6)
      unreached t h e m n (gone p l z) = omega (arith, S.blank t h)

      each : (t : ℕ) → t < G.tiles → Dec (t ≡ s) → Dec (best G T t 6 < G.mark) → Dec (T t < G.mark) → T t ≡ want G T s b t
      each t h (yes e) m n = ap T e ∙ S.home ∙ sym (want_home G T s b t e)
      each t h (no e) (yes m) n =
          let k = maker G T t 6 m in
          seen t (C.all k.u k.d t k.w (k.step h k.below) e)
      each t h (no e) (no m) (yes n) = seen t (came t (T t) e (ends (S.sound t h n).0.1))
      each t h (no e) (no m) (no n) = unreached t h e (omega arith) (omega arith) (wanted G T s b t (want G T s b t) refl)

  pub still_right : (k : ℕ) → pass G s b order (passes G s b order k (begin G s)) ≡ passes G s b order k (begin G s) → Right G (at (passes G s b order k (begin G s))) s b
  still_right k q = rule_right G (at (after k)) s b hs (still_rule k q)
