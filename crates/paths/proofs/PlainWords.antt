-- Where no least sum reaches the mark, a table is right exactly if it is right in plain words, and the mark may be exchanged for another. Right lists are equal.
use mathlib.Core.Path.{◌≡◌, sym, ◌∙◌}
use mathlib.Core.Bool.{cond}
use mathlib.Core.Logic.{◌↔◌}
use mathlib.Core.List.{List}
use Prim.Native.Nat.{ℕ, suc, ◌*◌, ◌-◌, ◌≤◌, ◌<◌}
use native.Mathlib.Decide.{dec_lt}
use native.Mathlib.Omega.{arith}
use lib.Dec.{ltb}
use lib.ListN.{length}
use lib.Seq.{ext_get_or}
use borrow.Author.Tests.{lt-ltb, le-ltb}
use Rattle.paths.specs.Lands.{Land, remarked, Step, Walk, here, then, Least}
use Rattle.paths.specs.Tables.{at, Right, Plain, Capped}
use Rattle.paths.proofs.Settling.{right_unique}
use Rattle.paths.proofs.RuleIsRight.{right_under}
use Rattle.paths.proofs.ShortWalks.{brief, brief_capped, least_capped}
use Rattle.paths.proofs.RightTable.{right_exists}

-- Two right lists of the land's length are equal.
pub right_lists : (G : Land) (L L' : List ℕ) (s b : ℕ) → length L ≡ G.tiles → length L' ≡ G.tiles → Right G (at L) s b → Right G (at L') s b → L ≡ L'
right_lists G L L' s b e e' R R' = ext_get_or 0 L L' (e ∙ sym e') (λ t h. right_unique G (at L) (at L') s b R R' t (omega arith))

-- Entries that are of no tile do not matter.
pub right_like : (G : Land) (T T' : ℕ → ℕ) (s b : ℕ) → ((t : ℕ) → t < G.tiles → T' t ≡ T t) → Right G T s b → Right G T' s b
right_like G T T' s b e R =
    record {
      found = λ t h m. rw (e t h) (R.found t h (rw (e t h) at m));
      missed = λ t h m. rw (e t h) (R.missed t h (rw (e t h) at m));
    }

module _ (G : Land) (T : ℕ → ℕ) (s b W : ℕ) (hs : s < G.tiles) (C : Capped G W) (h_w : (G.tiles - 1) * W < G.mark) where
  -- A right table has no walk within the budget to a tile with the mark.
  beyond : Right G T s b → (t : ℕ) → t < G.tiles → G.mark ≤ T t → (ds : List ℕ) (x : ℕ) → Walk G s ds t x → b < x
  beyond R t h m ds x p =
      elim (dec_lt b x) [
        | yes l ↦ l
        | no l ↦ let c = brief hs p in
            absurd (omega (arith, brief_capped C hs c, c.fits, (R.missed t h m).1 c.dirs c.sum c.path (omega (arith, c.fits))))
      ]

  pub right_plain : Right G T s b → Plain G T s b
  right_plain R =
      record {
        near = λ t h v l i. is t h v l (right_under G T s b hs R h l.path i (omega (arith, least_capped C hs l)));
        far = λ t h f. gone t h f (dec_lt (T t) G.mark);
      }
    where
      is : (t : ℕ) → t < G.tiles → (v : ℕ) → Least G s t v → T t ≤ v → T t ≡ v
      is t h v l j =
          let r = R.found t h (omega (arith, least_capped C hs l)) in
          omega (arith, l.least r.0.dirs (T t) r.0.path)

      gone : (t : ℕ) → t < G.tiles → ((ds : List ℕ) (x : ℕ) → Walk G s ds t x → b < x) → Dec (T t < G.mark) → T t ≡ G.mark
      gone t h f (yes m) =
          let r = R.found t h m in
          absurd (omega (arith, f r.0.dirs (T t) r.0.path, r.1))
      gone t h f (no m) = (R.missed t h (omega arith)).0

  -- With a budget that no least sum passes, the mark says that there is no walk at all.
  pub no_way : G.mark ≤ suc b → Right G T s b → (t : ℕ) → t < G.tiles → T t ≡ G.mark → (ds : List ℕ) (x : ℕ) → Walk G s ds t x → ⊥
  no_way hb R t h e ds x p = let c = brief hs p in omega (arith, brief_capped C hs c, beyond R t h (omega arith) c.dirs c.sum c.path)

pub plain_right : (G : Land) (T : ℕ → ℕ) (s b W : ℕ) → s < G.tiles → Capped G W → (G.tiles - 1) * W < G.mark → Plain G T s b → Right G T s b
plain_right G T s b W hs C h_w P = right_like G T₀ T s b (λ t h. same t h (dec_lt (T₀ t) G.mark)) R
  where
    T₀ : ℕ → ℕ
    T₀ = at (right_exists G s b hs).0

    R : Right G T₀ s b
    R = (right_exists G s b hs).2

    same : (t : ℕ) → t < G.tiles → Dec (T₀ t < G.mark) → T t ≡ T₀ t
    same t h (yes m) = P.near t h (T₀ t) (R.found t h m).0 (R.found t h m).1
    same t h (no m) = P.far t h (beyond G T₀ s b W hs C h_w R t h (omega arith)) ∙ sym (R.missed t h (omega arith)).0

pub right_iff_plain : (G : Land) (T : ℕ → ℕ) (s b W : ℕ) → s < G.tiles → Capped G W → (G.tiles - 1) * W < G.mark → Right G T s b ↔ Plain G T s b
right_iff_plain G T s b W hs C h_w = (right_plain G T s b W hs C h_w, plain_right G T s b W hs C h_w)

-- The mark is not the land's own: steps, walks and least sums are the same with another mark. (A land with its mark put back is that land.)
step_marked : {G : Land} (m : ℕ) {u d t w : ℕ} → Step G u d t w → Step (remarked G m) u d t w
step_marked m st = record { into = st.into; dir = st.dir; from = st.from; on = st.on; price = st.price; paid = st.paid }

walk_marked : {G : Land} (m : ℕ) {s : ℕ} {ds : List ℕ} {t v : ℕ} → Walk G s ds t v → Walk (remarked G m) s ds t v
walk_marked m here = here
walk_marked m (then p st) = then (walk_marked m p) (step_marked m st)

least_marked : {G : Land} (m : ℕ) {s t v : ℕ} → Least G s t v → Least (remarked G m) s t v
least_marked {G} m l = record { dirs = l.dirs; path = walk_marked m l.path; least = λ ds x p. l.least ds x (walk_marked {G = remarked G m} G.mark p) }

-- A right table stays right when the mark is exchanged for another, in the land and in the table, if no least sum reaches either.
pub right_marked : (G : Land) (T T' : ℕ → ℕ) (s b W m : ℕ) → s < G.tiles → Capped G W → (G.tiles - 1) * W < G.mark → (G.tiles - 1) * W < m
    → ((t : ℕ) → t < G.tiles → T' t ≡ cond (ltb (T t) G.mark) (T t) m) → Right G T s b → Right (remarked G m) T' s b
right_marked G T T' s b W m hs C hG hm e R =
    record { found = λ t h k. found t h k (dec_lt (T t) G.mark); missed = λ t h k. missed t h k (dec_lt (T t) G.mark) }
  where
    kept : (t : ℕ) → t < G.tiles → T t < G.mark → T' t ≡ T t
    kept t h l = e t h ∙ rw (lt-ltb (T t) G.mark l)

    marked : (t : ℕ) → t < G.tiles → G.mark ≤ T t → T' t ≡ m
    marked t h l = e t h ∙ rw (le-ltb (T t) G.mark l)

    found : (t : ℕ) → t < G.tiles → T' t < m → Dec (T t < G.mark) → Least (remarked G m) s t (T' t) × (T' t ≤ b)
    found t h k (yes l) = let r = R.found t h l in rw (kept t h l) (least_marked m r.0, r.1)
    found t h k (no l) = absurd (omega (arith, marked t h (omega arith)))

    missed : (t : ℕ) → t < G.tiles → m ≤ T' t → Dec (T t < G.mark) → (T' t ≡ m) × ((ds : List ℕ) (x : ℕ) → Walk (remarked G m) s ds t x → x ≤ b → m ≤ x)
    missed t h k (yes l) = absurd (omega (arith, kept t h l, least_capped C hs (R.found t h l).0))
    missed t h k (no l) =
        (marked t h (omega arith), λ ds x p i. absurd (omega (arith, beyond G T s b W hs C hG R t h (omega arith) ds x (walk_marked {G = remarked G m} G.mark p))))
