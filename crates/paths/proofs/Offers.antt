-- What the neighbour rule's computed form says: the best offer is no more than any offer, and is an offer; and the rule by its three cases.
use mathlib.Core.Path.{◌≡◌, refl, sym, ap, ◌∙◌}
use Prim.Native.Nat.{ℕ, zero, suc, ◌+◌, ◌≤◌, ◌<◌, min}
use native.Mathlib.Nat.{not-suc-le-zero}
use native.Mathlib.Decide.{dec_le, dec_lt, ℕ_discrete}
use native.Mathlib.Omega.{arith}
use borrow.Author.Tests.{eq-eqb, ne_eqb, le-leb, lt-leb, lt-ltb, le-ltb}
use Rattle.paths.specs.Lands.{Land, Step}
use Rattle.paths.specs.NeighborRule.{offer, best, want}

module _ (G : Land) (T : ℕ → ℕ) where
  -- What a direction offers, by its two tests.
  pub offer_open : (t d : ℕ) → G.prev t d < G.tiles → 0 < G.cost t d → offer G T t d ≡ T (G.prev t d) + G.cost t d
  offer_open t d h j = rw (lt-ltb (G.prev t d) G.tiles h, lt-ltb 0 (G.cost t d) j)

  pub offer_far : (t d : ℕ) → G.tiles ≤ G.prev t d → offer G T t d ≡ G.mark
  offer_far t d h = rw (le-ltb (G.prev t d) G.tiles h)

  pub offer_barred : (t d : ℕ) → G.prev t d < G.tiles → G.cost t d ≤ 0 → offer G T t d ≡ G.mark
  offer_barred t d h j = rw (lt-ltb (G.prev t d) G.tiles h, le-ltb 0 (G.cost t d) j)

  pub offer_step : (u d t w : ℕ) → Step G u d t w → offer G T t d ≡ T u + w
  offer_step u d t w st = rw (st.from, st.price, lt-ltb u G.tiles st.on, lt-ltb 0 w st.paid)

  -- The best offer is neither above the mark nor above the offer of an open step.
  pub best_le : (t k : ℕ) → best G T t k ≤ G.mark
  unfolding best
  best_le t zero = omega arith
  best_le t (suc k) = omega (arith, best_le t k)

  pub best_offer : (t k u d w : ℕ) → d < k → Step G u d t w → best G T t k ≤ T u + w
  unfolding best
  best_offer t zero u d w h st = absurd (not-suc-le-zero h)
  best_offer t (suc k) u d w h st = go (ℕ_discrete d k) (λ l. best_offer t k u d w l st)
    where
      go : Dec (d ≡ k) → (d < k → best G T t k ≤ T u + w) → min (best G T t k) (offer G T t k) ≤ T u + w
      go (yes p) f =
          let q : offer G T t k ≡ T u + w = ap (λ (j : ℕ). offer G T t j) (sym p) ∙ offer_step u d t w st in
          omega arith
      go (no p) f = omega (arith, f (omega arith))

-- Where the best offer is below the mark, some step makes it.
pub record Maker (G : Land) (T : ℕ → ℕ) (t k : ℕ) : Type 0 where
  pub d : ℕ
  pub u : ℕ
  pub w : ℕ
  pub below : d < k
  pub step : t < G.tiles → d < 6 → Step G u d t w
  pub makes : best G T t k ≡ T u + w

module _ (G : Land) (T : ℕ → ℕ) where
  pub maker : (t k : ℕ) → best G T t k < G.mark → Maker G T t k
  unfolding best
  maker t zero h = absurd (omega arith)
  maker t (suc k) h = go (dec_lt (offer G T t k) (best G T t k)) (maker t k)
    where
      last : offer G T t k < best G T t k → Dec (G.prev t k < G.tiles) → Dec (0 < G.cost t k) → Maker G T t (suc k)
      last l (yes p) (yes q) =
          record {
            d = k;
            u = G.prev t k;
            w = G.cost t k;
            below = omega arith;
            step = λ x y. record { into = x; dir = y; from = refl; on = p; price = refl; paid = q };
            makes = omega (arith, offer_open G T t k p q);
          }
      last l (yes p) (no q) = absurd (omega (arith, offer_barred G T t k p (omega arith), best_le G T t k))
      last l (no p) q = absurd (omega (arith, offer_far G T t k (omega arith), best_le G T t k))

      go : Dec (offer G T t k < best G T t k) → (best G T t k < G.mark → Maker G T t k) → Maker G T t (suc k)
      go (yes l) f = last l (dec_lt (G.prev t k) G.tiles) (dec_lt 0 (G.cost t k))
      go (no l) f =
          let m = f (omega arith) in
          record { d = m.d; u = m.u; w = m.w; below = omega arith; step = m.step; makes = omega (arith, m.makes) }

  -- What the rule wants, by its three cases.
  pub want_home : (s b t : ℕ) → t ≡ s → want G T s b t ≡ 0
  unfolding want
  want_home s b t e = rw (eq-eqb t s e)

  pub want_in : (s b t : ℕ) → (t ≡ s → ⊥) → best G T t 6 ≤ b → want G T s b t ≡ best G T t 6
  unfolding want
  want_in s b t e h = rw (ne_eqb t s e, le-leb (best G T t 6) b h)

  pub want_out : (s b t : ℕ) → (t ≡ s → ⊥) → b < best G T t 6 → want G T s b t ≡ G.mark
  unfolding want
  want_out s b t e h = rw (ne_eqb t s e, lt-leb (best G T t 6) b h)

-- x is what the rule wants at t, and by which case.
pub data Wanted (G : Land) (T : ℕ → ℕ) (s b t x : ℕ) : Type 0 where
  home : t ≡ s → x ≡ 0 → Wanted G T s b t x
  good : (t ≡ s → ⊥) → best G T t 6 ≤ b → x ≡ best G T t 6 → Wanted G T s b t x
  gone : (t ≡ s → ⊥) → b < best G T t 6 → x ≡ G.mark → Wanted G T s b t x

pub wanted : (G : Land) (T : ℕ → ℕ) (s b t x : ℕ) → x ≡ want G T s b t → Wanted G T s b t x
wanted G T s b t x e = go (ℕ_discrete t s) (dec_le (best G T t 6) b)
  where
    go : Dec (t ≡ s) → Dec (best G T t 6 ≤ b) → Wanted G T s b t x
    go (yes p) q = home p (e ∙ want_home G T s b t p)
    go (no p) (yes q) = good p q (e ∙ want_in G T s b t p q)
    go (no p) (no q) = gone p (omega arith) (e ∙ want_out G T s b t p (omega arith))
