-- Passes only lower entries: so a pass that changes nothing found the rule at each of its tiles, and did not change an entry and change it back.
use mathlib.Core.Path.{◌≡◌, refl, sym, ap, ◌∙◌}
use mathlib.Core.Logic.{◌⊎◌, inl, inr}
use mathlib.Core.List.Memᴰ
use mathlib.Core.List.{List, [], ◌∷◌, Memᴰ}
use Prim.Native.Nat.{ℕ, zero, suc, ◌≤◌, ◌<◌}
use native.Mathlib.Decide.{dec_lt, ℕ_discrete}
use native.Mathlib.Omega.{arith}
use lib.ListN.{length}
use Rattle.paths.specs.Lands.{Land}
use Rattle.paths.specs.Tables.{at}
use Rattle.paths.specs.NeighborRule.{offer, best, want}
use Rattle.paths.specs.Passes.{begin, relax, pass, passes}
use Rattle.paths.proofs.Offers.{best_le, offer_open, offer_far, offer_barred, Wanted, home, good, gone, wanted}
use Rattle.paths.proofs.Visits.{On, begin_length, begin_else, relax_length, relax_own, relax_other, relax_still, passes_length}

-- From lower entries the rule wants no more.
module _ (G : Land) (T T' : ℕ → ℕ) (le : (u : ℕ) → u < G.tiles → T' u ≤ T u) where
  offer_mono : (t d : ℕ) → offer G T' t d ≤ offer G T t d
  offer_mono t d = go (dec_lt (G.prev t d) G.tiles) (dec_lt 0 (G.cost t d))
    where
      go : Dec (G.prev t d < G.tiles) → Dec (0 < G.cost t d) → offer G T' t d ≤ offer G T t d
      go (yes p) (yes q) = omega (arith, offer_open G T t d p q, offer_open G T' t d p q, le (G.prev t d) p)
      go (yes p) (no q) = omega (arith, offer_barred G T t d p (omega arith), offer_barred G T' t d p (omega arith))
      go (no p) q = omega (arith, offer_far G T t d (omega arith), offer_far G T' t d (omega arith))

  best_mono : (t k : ℕ) → best G T' t k ≤ best G T t k
  unfolding best
  best_mono t zero = omega arith
  best_mono t (suc k) = omega (arith, best_mono t k, offer_mono t k)

  want_mono : (s b t : ℕ) → want G T' s b t ≤ want G T s b t
  want_mono s b t = go (wanted G T s b t _ refl) (wanted G T' s b t _ refl)
    where
      go : Wanted G T s b t (want G T s b t) → Wanted G T' s b t (want G T' s b t) → want G T' s b t ≤ want G T s b t
      go w (home p z) = omega arith
      go (home q y) (good p l z) = absurd (p q)
      go (home q y) (gone p l z) = absurd (p q)
      go (good q m y) (good p l z) = omega (arith, best_mono t 6)
      go (good q m y) (gone p l z) = absurd (omega (arith, best_mono t 6))
      go (gone q m y) (good p l z) = omega (arith, best_le G T' t 6)
      go (gone q m y) (gone p l z) = omega arith

-- No entry is below what the rule wants there.
pub record Falls (G : Land) (T : ℕ → ℕ) (s b : ℕ) : Type 0 where
  pub each : (t : ℕ) → t < G.tiles → want G T s b t ≤ T t

module _ (G : Land) (s b : ℕ) where
  pub relax_down : (L : List ℕ) (t : ℕ) → length L ≡ G.tiles → t < G.tiles → Falls G (at L) s b → (u : ℕ) → u < G.tiles → at (relax G s b L t) u ≤ at L u
  relax_down L t e h F u l = go (ℕ_discrete u t)
    where
      go : Dec (u ≡ t) → at (relax G s b L t) u ≤ at L u
      go (yes p) = rw p (omega (arith, relax_own G s b L t e h, F.each t h))
      go (no p) = omega (arith, relax_other G s b L t u p)

  pub relax_falls : (L : List ℕ) (t : ℕ) → length L ≡ G.tiles → t < G.tiles → Falls G (at L) s b → Falls G (at (relax G s b L t)) s b
  relax_falls L t e h F = record { each = λ u l. go u l (ℕ_discrete u t) }
    where
      less : (u : ℕ) → want G (at (relax G s b L t)) s b u ≤ want G (at L) s b u
      less = want_mono G (at L) (at (relax G s b L t)) (relax_down L t e h F) s b

      go : (u : ℕ) → u < G.tiles → Dec (u ≡ t) → want G (at (relax G s b L t)) s b u ≤ at (relax G s b L t) u
      go u l (yes p) = rw p (omega (arith, less t, relax_own G s b L t e h))
      go u l (no p) = omega (arith, less u, F.each u l, relax_other G s b L t u p)

  pub pass_falls : (order L : List ℕ) → length L ≡ G.tiles → On G order → Falls G (at L) s b → Falls G (at (pass G s b order L)) s b
  unfolding pass
  pass_falls [] L e h F = F
  pass_falls (t ∷ order) L e h F =
      pass_falls order (relax G s b L t) (relax_length G s b L t ∙ e) (λ u m. h u (Memᴰ.tail m)) (relax_falls L t e (h t (Memᴰ.head refl)) F)

  pub pass_down : (order L : List ℕ) → length L ≡ G.tiles → On G order → Falls G (at L) s b → (u : ℕ) → u < G.tiles → at (pass G s b order L) u ≤ at L u
  unfolding pass
  pass_down [] L e h F u l = omega arith
  pass_down (t ∷ order) L e h F u l =
      let ht : t < G.tiles = h t (Memᴰ.head refl) in
      let M : List ℕ = relax G s b L t in
      let p : at (pass G s b order M) u ≤ at M u = pass_down order M (relax_length G s b L t ∙ e) (λ v m. h v (Memᴰ.tail m)) (relax_falls L t e ht F) u l in
      omega (arith, relax_down L t e ht F u l)

  -- A pass that changes nothing finds the rule at each of its tiles.
  pub pass_each : (order L : List ℕ) → length L ≡ G.tiles → On G order → Falls G (at L) s b → pass G s b order L ≡ L
      → (t : ℕ) → Memᴰ t order → at L t ≡ want G (at L) s b t
  unfolding pass
  pass_each [] L e h F q t m = absurd (Memᴰ.not-nil m)
  pass_each (i ∷ order) L e h F q t m = go (λ z n. pass_each order L e (λ v n. h v (Memᴰ.tail n)) F z t n) (Memᴰ.cases_cons m)
    where
      hi : i < G.tiles
      hi = h i (Memᴰ.head refl)

      M : List ℕ
      M = relax G s b L i

      below : at (pass G s b order M) i ≤ at M i
      below = pass_down order M (relax_length G s b L i ∙ e) (λ v n. h v (Memᴰ.tail n)) (relax_falls L i e hi F) i hi

      holds : at L i ≡ want G (at L) s b i
      holds = omega (arith, below, ap (λ (N : List ℕ). at N i) q, relax_own G s b L i e hi, F.each i hi)

      go : (pass G s b order L ≡ L → Memᴰ t order → at L t ≡ want G (at L) s b t) → (t ≡ i) ⊎ Memᴰ t order → at L t ≡ want G (at L) s b t
      go f (inl p) = rw p holds
      go f (inr n) = f (sym (ap (pass G s b order) (relax_still G s b L i holds)) ∙ q) n

  -- So it is from the beginning on.
  begin_falls : s < G.tiles → Falls G (at (begin G s)) s b
  begin_falls hs = record { each = λ t h. go t h (wanted G (at (begin G s)) s b t _ refl) }
    where
      go : (t : ℕ) → t < G.tiles → Wanted G (at (begin G s)) s b t (want G (at (begin G s)) s b t) → want G (at (begin G s)) s b t ≤ at (begin G s) t
      go t h (home p z) = omega arith
      go t h (good p l z) = omega (arith, begin_else G s hs t h p, best_le G (at (begin G s)) t 6)
      go t h (gone p l z) = omega (arith, begin_else G s hs t h p)

  pub passes_fall : (order : List ℕ) → s < G.tiles → On G order → (k : ℕ) → Falls G (at (passes G s b order k (begin G s))) s b
  unfolding passes
  passes_fall order hs h zero = begin_falls hs
  passes_fall order hs h (suc k) =
      pass_falls order (passes G s b order k (begin G s)) (passes_length G s b order k (begin G s) ∙ begin_length G s hs) h (passes_fall order hs h k)
