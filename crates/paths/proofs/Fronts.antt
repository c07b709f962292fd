-- Walks joined, a least walk read off a right table from its end, and a walk told from its start: the directions in the order in which they are walked.
use mathlib.Core.Path.{◌≡◌, ◌∙◌}
use mathlib.Core.List.{List, [], ◌∷◌, ◌++◌, reverse_aux}
use Prim.Native.Nat.{ℕ, ◌+◌, ◌<◌}
use native.Mathlib.Nat.{add-zero, zero-add, add_assoc}
use native.Mathlib.Omega.{arith}
use Rattle.paths.specs.Lands.{Land, Step, Walk, here, then}
use Rattle.paths.specs.Tables.{Right}
use Rattle.paths.proofs.Offers.{maker, Wanted, home, good, gone, wanted}
use Rattle.paths.proofs.RuleIsRight.{right_rule}

pub join : {G : Land} {s u t v x : ℕ} {ds es : List ℕ} → Walk G s ds u v → Walk G u es t x → Walk G s (es ++ ds) t (v + x)
join {v = v} p here = rw add-zero p
join p (then q st) = rw (← add_assoc) (then (join p q) st)

-- The step that leads into t on a least walk.
pub record Back (G : Land) (T : ℕ → ℕ) (t : ℕ) : Type 0 where
  pub d : ℕ
  pub u : ℕ
  pub w : ℕ
  pub step : Step G u d t w
  pub sum : T t ≡ T u + w
  pub falls : T u < T t

pub back : (G : Land) (T : ℕ → ℕ) (s b : ℕ) → s < G.tiles → Right G T s b → (t : ℕ) → t < G.tiles → (t ≡ s → ⊥) → T t < G.mark → Back G T t
back G T s b hs R t h e m = go (wanted G T s b t (T t) ((right_rule G T s b hs R).each t h))
  where
    go : Wanted G T s b t (T t) → Back G T t
    go (home p z) = absurd (e p)
    go (good p l z) =
        let k = maker G T t 6 (omega arith) in
        let st : Step G k.u k.d t k.w = k.step h k.below in
        record { d = k.d; u = k.u; w = k.w; step = st; sum = z ∙ k.makes; falls = omega (arith, k.makes, st.paid) }
    go (gone p l z) = absurd (omega arith)

-- A walk to t told from its start, and how a walk and its telling pass into one another.
pub data Route (G : Land) (t : ℕ) : ℕ → List ℕ → ℕ → Type 0 where
  there : Route G t t [] 0
  first : {u d x w v : ℕ} {ds : List ℕ} → Step G u d x w → Route G t x ds v → Route G t u (d ∷ ds) (w + v)

pub onto : {G : Land} {s t u v x : ℕ} {ds es : List ℕ} → Walk G s ds u v → Route G t u es x → Walk G s (reverse_aux es ds) t (v + x)
onto {v = v} p there = rw add-zero p
onto p (first st r) = rw (← add_assoc) (onto (then p st) r)

pub unroll : {G : Land} {s u t v x : ℕ} {ds es : List ℕ} → Walk G s ds u v → Route G t u es x → Route G t s (reverse_aux ds es) (v + x)
unroll here r = rw zero-add r
unroll (then p st) r = rw add_assoc (unroll p (first st r))
