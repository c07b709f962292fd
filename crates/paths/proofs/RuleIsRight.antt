-- The neighbour rule holds of a table exactly if the table is right. Nothing is asked of who filled the table.
use mathlib.Core.Path.{◌≡◌, refl, sym, ◌∙◌, subst}
use mathlib.Core.Logic.{◌↔◌}
use mathlib.Core.List.{List, [], ◌∷◌}
use Prim.Native.Nat.{ℕ, zero, suc, ◌+◌, ◌≤◌, ◌<◌}
use native.Mathlib.Decide.{dec_le, dec_lt, ℕ_discrete}
use native.Mathlib.Omega.{arith}
use Rattle.paths.specs.Lands.{Land, Step, Walk, here, then}
use Rattle.paths.specs.Tables.{Right}
use Rattle.paths.specs.NeighborRule.{best, want, Rule}
use Rattle.paths.specs.Engines.{Settled}
use Rattle.paths.proofs.Offers.{best_le, best_offer, maker, want_home, want_in, want_out, Wanted, home, good, gone, wanted}
use Rattle.paths.proofs.Settling.{settled_right, right_unique}

-- The best offer to t is the sum of a walk, if the entries below it are.
pub offered : (G : Land) (T : ℕ → ℕ) (s t : ℕ) → t < G.tiles → best G T t 6 < G.mark
    → ((u : ℕ) → u < G.tiles → T u < best G T t 6 → (ds : List ℕ) × Walk G s ds u (T u)) → (ds : List ℕ) × Walk G s ds t (best G T t 6)
offered G T s t h m f =
    let k = maker G T t 6 m in
    let st : Step G k.u k.d t k.w = k.step h k.below in
    let p = f k.u st.on (omega (arith, k.makes, st.paid)) in
    (k.d ∷ p.0, subst (λ (x : ℕ). Walk G s (k.d ∷ p.0) t x) (sym k.makes) (then p.1 st))

-- How a walk ends: at its start, or in a last step.
pub data Ends (G : Land) (s t v : ℕ) : Type 0 where
  start : t ≡ s → Ends G s t v
  last : {ds : List ℕ} {u x d w : ℕ} → Walk G s ds u x → Step G u d t w → v ≡ x + w → Ends G s t v

pub ends : {G : Land} {s : ℕ} {ds : List ℕ} {t v : ℕ} → Walk G s ds t v → Ends G s t v
ends here = start refl
ends (then p st) = last p st refl

module _ (G : Land) (T : ℕ → ℕ) (s b : ℕ) (hs : s < G.tiles) where
  -- Under the rule an entry below the mark is the sum of a walk: entries fall from tile to tile along the steps that make them, so the walk is found within k steps.
  made : Rule G T s b → (k t : ℕ) → t < G.tiles → T t < k → T t < G.mark → (ds : List ℕ) × Walk G s ds t (T t)
  made R zero t h l m = absurd (omega arith)
  made R (suc k) t h l m = go (wanted G T s b t (T t) (R.each t h)) (made R k)
    where
      go : Wanted G T s b t (T t) → ((u : ℕ) → u < G.tiles → T u < k → T u < G.mark → (ds : List ℕ) × Walk G s ds u (T u)) → (ds : List ℕ) × Walk G s ds t (T t)
      go (home e z) f = ([], rw (z, e) here)
      go (good e i z) f = rw z (offered G T s t h (omega arith) (λ u hu lu. f u hu (omega arith) (omega arith)))
      go (gone e i z) f = absurd (omega arith)

  pub rule_settled : Rule G T s b → Settled G T s b
  rule_settled R =
      record {
        home = R.each s hs ∙ want_home G T s b s refl;
        sound = λ t h m. (made R (suc (T t)) t h (omega arith) m, within t m (by t h));
        blank = λ t h. topped t (by t h);
        still = λ u d t w st m l. lower u d t w st l (by t st.into);
      }
    where
      by : (t : ℕ) → t < G.tiles → Wanted G T s b t (T t)
      by t h = wanted G T s b t (T t) (R.each t h)

      within : (t : ℕ) → T t < G.mark → Wanted G T s b t (T t) → T t ≤ b
      within t m (home e z) = omega arith
      within t m (good e i z) = omega arith
      within t m (gone e i z) = absurd (omega arith)

      topped : (t : ℕ) → Wanted G T s b t (T t) → T t ≤ G.mark
      topped t (home e z) = omega arith
      topped t (good e i z) = omega (arith, best_le G T t 6)
      topped t (gone e i z) = omega arith

      lower : (u d t w : ℕ) → Step G u d t w → T u + w ≤ b → Wanted G T s b t (T t) → T t ≤ T u + w
      lower u d t w st l (home e z) = omega arith
      lower u d t w st l (good e i z) = omega (arith, best_offer G T t 6 u d w st.dir st)
      lower u d t w st l (gone e i z) = absurd (omega (arith, best_offer G T t 6 u d w st.dir st))

  pub rule_right : Rule G T s b → Right G T s b
  rule_right R = settled_right G T s b (rule_settled R)

  -- A right table's entry is no more than the sum of any walk within the budget.
  pub right_under : Right G T s b → {ds : List ℕ} {t v : ℕ} → t < G.tiles → Walk G s ds t v → v ≤ b → v < G.mark → T t ≤ v
  right_under R {ds} {t} {v} h p l m = go (dec_lt (T t) G.mark)
    where
      go : Dec (T t < G.mark) → T t ≤ v
      go (yes k) = (R.found t h k).0.least ds v p
      go (no k) = absurd (omega (arith, (R.missed t h (omega arith)).1 ds v p l))

  pub right_rule : Right G T s b → Rule G T s b
  right_rule R = record { each = λ t h. go t h (ℕ_discrete t s) (dec_lt (T t) G.mark) }
    where
      real : (t : ℕ) → t < G.tiles → best G T t 6 < G.mark → (ds : List ℕ) × Walk G s ds t (best G T t 6)
      real t h m = offered G T s t h m (λ u hu lu. let l = (R.found u hu (omega arith)).0 in (l.dirs, l.path))

      -- The last step of the walk that makes an entry is an offer to it.
      met : (t : ℕ) → (t ≡ s → ⊥) → T t < G.mark → T t ≤ b → Ends G s t (T t) → best G T t 6 ≤ T t
      met t e m l (start p) = absurd (e p)
      met t e m l (last {u = u} {x = x} {d = d} {w = w} p st z) =
          omega
          (arith, best_offer G T t 6 u d w st.dir st, right_under R st.on p (omega arith) (omega (arith, st.paid)))

      none : (t : ℕ) → t < G.tiles → (t ≡ s → ⊥) → T t ≡ G.mark → Dec (best G T t 6 ≤ b) → Dec (best G T t 6 < G.mark) → T t ≡ want G T s b t
      none t h e z (yes x) (yes y) = absurd (omega (arith, (R.missed t h (omega arith)).1 _ _ (real t h y).1 x))
      none t h e z (yes x) (no y) = omega (arith, best_le G T t 6, want_in G T s b t e x)
      none t h e z (no x) y = omega (arith, want_out G T s b t e (omega arith))

      go : (t : ℕ) → t < G.tiles → Dec (t ≡ s) → Dec (T t < G.mark) → T t ≡ want G T s b t
      go t h (yes e) (yes m) = omega (arith, want_home G T s b t e, (R.found t h m).0.least [] 0 (rw e here))
      go t h (yes e) (no m) =
          let r = R.missed t h (omega arith) in
          omega (arith, want_home G T s b t e, r.0, r.1 [] 0 (rw e here) (omega arith))
      go t h (no e) (yes m) =
          let r = R.found t h m in
          let l : best G T t 6 ≤ T t = met t e m r.1 (ends r.0.path) in
          let q = real t h (omega arith) in
          omega (arith, want_in G T s b t e (omega arith), r.0.least q.0 (best G T t 6) q.1)
      go t h (no e) (no m) = none t h e (R.missed t h (omega arith)).0 (dec_le (best G T t 6) b) (dec_lt (best G T t 6) G.mark)

pub rule_iff_right : (G : Land) (T : ℕ → ℕ) (s b : ℕ) → s < G.tiles → Rule G T s b ↔ Right G T s b
rule_iff_right G T s b hs = (rule_right G T s b hs, right_rule G T s b hs)

pub rule_unique : (G : Land) (T T' : ℕ → ℕ) (s b : ℕ) → s < G.tiles → Rule G T s b → Rule G T' s b → (t : ℕ) → t < G.tiles → T t ≡ T' t
rule_unique G T T' s b hs R R' = right_unique G T T' s b (rule_right G T s b hs R) (rule_right G T' s b hs R')
