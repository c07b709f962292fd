-- Each visit of a pass accounts for longer walks: after k passes over all tiles no entry is above the sum of a walk of at most k steps.
use mathlib.Core.Path.{◌≡◌, refl, sym, ap, ◌∙◌}
use mathlib.Core.Logic.{◌⊎◌, inl, inr, ⊎_elim}
use mathlib.Core.List.Memᴰ
use mathlib.Core.List.{List, [], ◌∷◌, Memᴰ}
use Prim.Native.Nat.{ℕ, suc, ◌≤◌, ◌<◌}
use native.Mathlib.Decide.{ℕ_discrete}
use native.Mathlib.Omega.{arith}
use lib.ListN.{length}
use Rattle.paths.specs.Lands.{Land, Walk, here, then}
use Rattle.paths.specs.Tables.{at}
use Rattle.paths.specs.NeighborRule.{best, want}
use Rattle.paths.specs.Engines.{Reached}
use Rattle.paths.specs.Passes.{relax, pass}
use Rattle.paths.proofs.Offers.{best_le, best_offer, Wanted, home, good, gone, wanted, want_home}
use Rattle.paths.proofs.RuleIsRight.{offered}
use Rattle.paths.proofs.Visits.{On, relax_length, relax_own, relax_other}

-- After k passes, and the tiles P of the next: the start has 0, entries are sums of walks, and no entry is above the sum of a walk of at most k steps; at the tiles P, of
-- at most k + 1.
pub record Accounted (G : Land) (T : ℕ → ℕ) (s b k : ℕ) (P : ℕ → Type 0) : Type 0 where
  pub home : T s ≡ 0
  pub sound : (t : ℕ) → t < G.tiles → T t < G.mark → Reached G s b t (T t)
  pub blank : (t : ℕ) → t < G.tiles → T t ≤ G.mark
  pub old : {ds : List ℕ} {t v : ℕ} → Walk G s ds t v → length ds ≤ k → v ≤ b → v < G.mark → T t ≤ v
  pub new : {ds : List ℕ} {t v : ℕ} → P t → Walk G s ds t v → length ds ≤ suc k → v ≤ b → v < G.mark → T t ≤ v

-- A table T' that is T with the entry of tile i set by the rule.
module _ (G : Land) (T T' : ℕ → ℕ) (s b i : ℕ) (hi : i < G.tiles) (e : T' i ≡ want G T s b i) (o : (t : ℕ) → (t ≡ i → ⊥) → T' t ≡ T t) where
  accounted_visit : (k : ℕ) (P : ℕ → Type 0) → Accounted G T s b k P → Accounted G T' s b k (λ t. P t ⊎ (t ≡ i))
  accounted_visit k P S =
      record {
        home = own (ℕ_discrete s i);
        sound = λ t h m. sound t h m (ℕ_discrete t i);
        blank = λ t h. blank t h (ℕ_discrete t i);
        old = λ {ds} {t} {v} p l x m. old p l x m (ℕ_discrete t i);
        new = λ {ds} {t} {v} h p l x m. new h p l x m (ℕ_discrete t i);
      }
    where
      w : Wanted G T s b i (T' i)
      w = wanted G T s b i (T' i) e

      own : Dec (s ≡ i) → T' s ≡ 0
      own (yes p) = ap T' p ∙ e ∙ want_home G T s b i (sym p)
      own (no p) = o s p ∙ S.home

      sound_at : T' i < G.mark → Wanted G T s b i (T' i) → Reached G s b i (T' i)
      sound_at m (home p z) = (([], rw (z, p) here), omega arith)
      sound_at m (good p l z) = (rw z (offered G T s i hi (omega arith) (λ u hu lu. (S.sound u hu (omega arith)).0)), omega arith)
      sound_at m (gone p l z) = absurd (omega arith)

      sound : (t : ℕ) → t < G.tiles → T' t < G.mark → Dec (t ≡ i) → Reached G s b t (T' t)
      sound t h m (yes p) = rw p (sound_at (rw p at m) w)
      sound t h m (no p) = rw (o t p) (S.sound t h (rw (o t p) at m))

      blank_at : Wanted G T s b i (T' i) → T' i ≤ G.mark
      blank_at (home p z) = omega arith
      blank_at (good p l z) = omega (arith, best_le G T i 6)
      blank_at (gone p l z) = omega arith

      blank : (t : ℕ) → t < G.tiles → Dec (t ≡ i) → T' t ≤ G.mark
      blank t h (yes p) = rw p (blank_at w)
      blank t h (no p) = rw (o t p) (S.blank t h)

      -- The last step of a walk is an offer that is no more than the walk's sum.
      met : {ds : List ℕ} {t v : ℕ} → Walk G s ds t v → (t ≡ s → ⊥) → length ds ≤ suc k → v ≤ b → v < G.mark → best G T t 6 ≤ v
      met here p l x m = absurd (p refl)
      met (then {u = u} {d = d} {t = t} {w = w} r st) p l x m = omega (arith, S.old r (omega arith) (omega arith) (omega arith), best_offer G T t 6 u d w st.dir st)

      low : {ds : List ℕ} {v : ℕ} → Walk G s ds i v → length ds ≤ suc k → v ≤ b → v < G.mark → Wanted G T s b i (T' i) → T' i ≤ v
      low r l x m (home p z) = omega arith
      low r l x m (good p j z) = omega (arith, met r p l x m)
      low r l x m (gone p j z) = absurd (omega (arith, met r p l x m))

      old : {ds : List ℕ} {t v : ℕ} → Walk G s ds t v → length ds ≤ k → v ≤ b → v < G.mark → Dec (t ≡ i) → T' t ≤ v
      old p l x m (yes q) = rw q (low (rw q at p) (omega arith) x m w)
      old {t = t} p l x m (no q) = rw (o t q) (S.old p l x m)

      new : {ds : List ℕ} {t v : ℕ} → P t ⊎ (t ≡ i) → Walk G s ds t v → length ds ≤ suc k → v ≤ b → v < G.mark → Dec (t ≡ i) → T' t ≤ v
      new h p l x m (yes q) = rw q (low (rw q at p) l x m w)
      new {t = t} (inl h) p l x m (no q) = rw (o t q) (S.new h p l x m)
      new {t = t} (inr h) p l x m (no q) = absurd (q h)

-- A pass: P are tiles visited before it, Q are among these and the tiles of the list.
pub accounted_pass : (G : Land) (s b k : ℕ) (order L : List ℕ) (P Q : ℕ → Type 0) → length L ≡ G.tiles → On G order → ((t : ℕ) → Q t → P t ⊎ Memᴰ t order)
    → Accounted G (at L) s b k P → Accounted G (at (pass G s b order L)) s b k Q
unfolding pass
accounted_pass G s b k [] L P Q e h f S =
    record { home = S.home; sound = S.sound; blank = S.blank; old = S.old; new = λ {ds} {t} {v} q. S.new (⊎_elim (λ y. y) (λ y. absurd (Memᴰ.not-nil y)) (f t q)) }
accounted_pass G s b k (i ∷ order) L P Q e h f S =
    let hi : i < G.tiles = h i (Memᴰ.head refl) in
    accounted_pass G s b k order (relax G s b L i) (λ t. P t ⊎ (t ≡ i)) Q (relax_length G s b L i ∙ e) (λ v n. h v (Memᴰ.tail n))
    (λ t q. ⊎_elim (λ y. inl (inl y)) (λ y. ⊎_elim (λ z. inl (inr z)) (λ z. inr z) (Memᴰ.cases_cons y)) (f t q))
    (accounted_visit G (at L) (at (relax G s b L i)) s b i hi (relax_own G s b L i e hi) (relax_other G s b L i) k P S)
