-- Going down a right table: from every tile with an entry below the mark it ends, makes a walk whose sum is the entry, and of all such walks the one with the smallest list.
use mathlib.Core.Path.{◌≡◌, refl, sym, ap, ◌∙◌}
use mathlib.Core.Logic.{◌⊎◌, inl, inr, ⊎_elim}
use mathlib.Core.List.{List, [], ◌∷◌}
use Prim.Native.Nat.{ℕ, zero, suc, ◌+◌, ◌≤◌, ◌<◌}
use native.Mathlib.Decide.{dec_lt, ℕ_discrete}
use native.Mathlib.Omega.{arith}
use Rattle.paths.specs.Lands.{Land, Step, Walk, here, then}
use Rattle.paths.specs.Tables.{Right}
use Rattle.paths.specs.NeighborRule.{offer}
use Rattle.paths.proofs.Offers.{offer_step, offer_far, offer_barred}
use Rattle.paths.proofs.RuleIsRight.{right_under}
use Rattle.paths.proofs.Fronts.{back}
use Rattle.routes.specs.Routes.{Smaller}
use Rattle.routes.specs.Descents.{Taken, Descent, arrived, down}

-- The smallest of the numbers below n for which something holds.
record First (P : ℕ → Type 0) (n : ℕ) : Type 0 where
  number : ℕ
  below : number < n
  holds : P number
  none : (k : ℕ) → k < number → P k → ⊥

seek : (P : ℕ → Type 0) → ((k : ℕ) → Dec (P k)) → (n : ℕ) → First P n ⊎ ((k : ℕ) → k < n → P k → ⊥)
seek P D zero = inr (λ k h p. absurd (omega arith))
seek P D (suc n) = go (seek P D n) (D n)
  where
    go : First P n ⊎ ((k : ℕ) → k < n → P k → ⊥) → Dec (P n) → First P (suc n) ⊎ ((k : ℕ) → k < suc n → P k → ⊥)
    go (inl s) q = inl (record { number = s.number; below = omega (arith, s.below); holds = s.holds; none = s.none })
    go (inr f) (yes p) = inl (record { number = n; below = omega arith; holds = p; none = f })
    go (inr f) (no p) = inr (λ k h q. elim (dec_lt k n) [ yes l ↦ f k l q | no l ↦ p (let z : k ≡ n = omega arith in rw z at q) ])

-- An offer below the mark is made by an open step.
offering : (L : Land) (T : ℕ → ℕ) (u d : ℕ) → u < L.tiles → d < 6 → offer L T u d < L.mark → Step L (L.prev u d) d u (L.cost u d)
offering L T u d h j m = go (dec_lt (L.prev u d) L.tiles) (dec_lt 0 (L.cost u d))
  where
    go : Dec (L.prev u d < L.tiles) → Dec (0 < L.cost u d) → Step L (L.prev u d) d u (L.cost u d)
    go (yes p) (yes q) = record { into = h; dir = j; from = refl; on = p; price = refl; paid = q }
    go (yes p) (no q) = absurd (omega (arith, offer_barred L T u d p (omega arith)))
    go (no p) q = absurd (omega (arith, offer_far L T u d (omega arith)))

-- What the direction taken tells of its step.
pub record Falls (L : Land) (T : ℕ → ℕ) (u d : ℕ) : Type 0 where
  pub step : Step L (L.prev u d) d u (L.cost u d)
  pub sum : T u ≡ T (L.prev u d) + L.cost u d
  pub falls : T (L.prev u d) < T u

pub taken_falls : (L : Land) (T : ℕ → ℕ) (u d : ℕ) → u < L.tiles → T u < L.mark → Taken L T u d → Falls L T u d
taken_falls L T u d h m c =
    let st = offering L T u d h c.dir (omega (arith, c.makes)) in
    let q = offer_step L T (L.prev u d) d u (L.cost u d) st in
    record { step = st; sum = sym c.makes ∙ q; falls = omega (arith, c.makes, st.paid) }

module _ (L : Land) (T : ℕ → ℕ) (e b : ℕ) (he : e < L.tiles) (R : Right L T e b) where
  -- Away from e some direction can be taken.
  pub taken : (u : ℕ) → u < L.tiles → T u < L.mark → (u ≡ e → ⊥) → (d : ℕ) × Taken L T u d
  taken u h m q = go (seek (λ d. offer L T u d ≡ T u) (λ d. ℕ_discrete (offer L T u d) (T u)) 6)
    where
      go : First (λ d. offer L T u d ≡ T u) 6 ⊎ ((k : ℕ) → k < 6 → offer L T u k ≡ T u → ⊥) → (d : ℕ) × Taken L T u d
      go (inl s) = (s.number, record { dir = s.below; makes = s.holds; smallest = s.none })
      go (inr f) =
          let k = back L T e b he R u h q m in
          absurd (f k.d k.step.dir (offer_step L T k.u k.d u k.w k.step ∙ sym k.sum))

  -- It ends, for entries fall; n is more than the entry to begin with.
  pub descend : (n u : ℕ) → T u < n → u < L.tiles → T u < L.mark → (ds : List ℕ) × Descent L T e u ds
  descend zero u l h m = absurd (omega arith)
  descend (suc n) u l h m = go (ℕ_discrete u e) (descend n)
    where
      go : Dec (u ≡ e) → ((t : ℕ) → T t < n → t < L.tiles → T t < L.mark → (ds : List ℕ) × Descent L T e t ds) → (ds : List ℕ) × Descent L T e u ds
      go (yes q) rec = ([], rw q arrived)
      go (no q) rec =
          let c = taken u h m q in
          let f = taken_falls L T u c.0 h m c.1 in
          let r = rec (L.prev u c.0) (omega (arith, f.falls)) f.step.on (omega (arith, f.falls)) in
          (c.0 ∷ r.0, down q c.1 r.1)

  home : T e < L.mark → T e ≡ 0
  home m = omega (arith, (R.found e he m).0.least [] 0 here)

  pub descent_walk : {u : ℕ} {ds : List ℕ} → u < L.tiles → T u < L.mark → Descent L T e u ds → Walk L e ds u (T u)
  descent_walk h m arrived = rw (home m) here
  descent_walk h m (down {u = u} {d = d} q c r) =
      let f = taken_falls L T u d h m c in
      rw f.sum (then (descent_walk f.step.on (omega (arith, f.falls)) r) f.step)

  -- If the sum of a walk is the entry of its last tile, so is it without the last step, and that step's direction makes up the entry.
  tight : {t k u w y : ℕ} {es : List ℕ} → T u < L.mark → Walk L e es t y → Step L t k u w → y + w ≡ T u → (y ≡ T t) × (offer L T u k ≡ T u)
  tight {t} {k} {u} {w} {y} {es} m p st z =
      let f = R.found u st.into m in
      let a : T t ≤ y = right_under L T e b he R st.on p (omega (arith, f.1)) (omega arith) in
      let c = (R.found t st.on (omega arith)).0 in
      let i = f.0.least (k ∷ c.dirs) (T t + w) (then c.path st) in
      let q : y ≡ T t = omega arith in
      (q, offer_step L T t k u w st ∙ omega arith)

  -- The direction taken against the one of another walk: it is not larger, and where it is the same the rest decides.
  decide : {u t d k w y : ℕ} {ds es : List ℕ} → Taken L T u d → Step L t k u w → Walk L e es t y → (y ≡ T t) × (offer L T u k ≡ T u)
      → (Walk L e es (L.prev u d) y → y ≡ T (L.prev u d) → (ds ≡ es) ⊎ Smaller ds es)
      → Dec (k < d) → Dec (d < k) → (d ∷ ds ≡ k ∷ es) ⊎ Smaller (d ∷ ds) (k ∷ es)
  decide {k = k} c st p z rec (yes l) q = absurd (c.smallest k l z.1)
  decide c st p z rec (no l) (yes q) = inr (inl q)
  decide {u} {t} {d} {k} {w} {y} {ds} {es} c st p z rec (no l) (no q) =
      let i : d ≡ k = omega arith in
      let a : t ≡ L.prev u d = sym st.from ∙ ap (L.prev u) (sym i) in
      ⊎_elim (λ x. inl (cc)) (λ x. inr (inr (i, x))) (rec (rw a at p) (z.0 ∙ ap T a))

  -- Every other walk of that sum has a larger list. The walk's start has a name of its own, so that both can be taken apart.
  first_from : {s u x : ℕ} {ds es : List ℕ} → s ≡ e → u < L.tiles → T u < L.mark → Descent L T e u ds → Walk L s es u x → x ≡ T u → (ds ≡ es) ⊎ Smaller ds es
  first_from o h m arrived here z = inl refl
  first_from o h m arrived (then p st) z = absurd (omega (arith, home m, st.paid))
  first_from o h m (down q c r) here z = absurd (q o)
  first_from {s = s} o h m (down {u = u} {d = d} q c r) (then {d = k} p st) z =
      let f = taken_falls L T u d h m c in
      let p' = rw o at p in
      decide c st p' (tight m p' st z) (λ p'' z'. first_from {s = e} refl f.step.on (omega (arith, f.falls)) r p'' z') (dec_lt k d) (dec_lt d k)

  pub descent_first : {u x : ℕ} {ds es : List ℕ} → u < L.tiles → T u < L.mark → Descent L T e u ds → Walk L e es u x → x ≡ T u → (ds ≡ es) ⊎ Smaller ds es
  descent_first h m r p z = first_from refl h m r p z

-- What a program that goes down step by step has to know of the list ahead: at e it is empty, and elsewhere it begins with the direction taken.
pub descent_over : {L : Land} {T : ℕ → ℕ} {e u : ℕ} {ds : List ℕ} → u ≡ e → Descent L T e u ds → ds ≡ []
descent_over q arrived = refl
descent_over q (down n c r) = absurd (n q)

pub descent_next : {L : Land} {T : ℕ → ℕ} {e u d : ℕ} {ds : List ℕ} → (u ≡ e → ⊥) → Taken L T u d → Descent L T e u ds
    → (rest : List ℕ) × (ds ≡ d ∷ rest) × Descent L T e (L.prev u d) rest
descent_next n c arrived = absurd (n refl)
descent_next {L} {T} {e} {u} {d} n c (down {d = k} {ds = rest} n' c' r) = go (dec_lt d k) (dec_lt k d)
  where
    go : Dec (d < k) → Dec (k < d) → (more : List ℕ) × (k ∷ rest ≡ d ∷ more) × Descent L T e (L.prev u d) more
    go (yes l) h = absurd (c'.smallest d l c.makes)
    go (no l) (yes h) = absurd (c.smallest k h c'.makes)
    go (no l) (no h) =
        let q : k ≡ d = omega arith in
        (rest, ap (λ (i : ℕ). i ∷ rest) q, rw q at r)
