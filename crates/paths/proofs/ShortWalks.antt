-- The sum of a walk is reached, or undercut, by a walk that meets no tile twice, so by one of fewer steps than there are tiles. That bounds every least sum.
use mathlib.Core.Path.{◌≡◌, refl, ap}
use mathlib.Core.Logic.{◌⊎◌, inl, inr, ⊎_elim}
use mathlib.Core.List.{List, [], ◌∷◌}
use Prim.Native.Nat.{ℕ, suc, ◌+◌, ◌*◌, ◌-◌, ◌≤◌, ◌<◌}
use native.Mathlib.Nat.{mul-le-mul_right, le_trans}
use native.Mathlib.Omega.{arith}
use lib.ListN.{length}
use Rattle.paths.specs.Lands.{Land, Step, Walk, here, then, Least}
use Rattle.paths.specs.Tables.{Capped}
use Rattle.paths.proofs.Pigeonhole.{In, Out, Distinct, Below, seek, pigeon}

-- A walk that meets no tile twice: ts are the tiles before the last.
data Trail (G : Land) (s : ℕ) : List ℕ → List ℕ → ℕ → ℕ → Type 0 where
  lone : Trail G s [] [] s 0
  more : {ds ts : List ℕ} {u v d t w : ℕ} → Trail G s ds ts u v → Step G u d t w → Out t (u ∷ ts) → Trail G s (d ∷ ds) (u ∷ ts) t (v + w)

walk_of : {G : Land} {s : ℕ} {ds ts : List ℕ} {t v : ℕ} → Trail G s ds ts t v → Walk G s ds t v
walk_of lone = here
walk_of (more p st o) = then (walk_of p) st

same_length : {G : Land} {s : ℕ} {ds ts : List ℕ} {t v : ℕ} → Trail G s ds ts t v → length ds ≡ length ts
same_length lone = refl
same_length (more p st o) = ap suc (same_length p)

distinct : {G : Land} {s : ℕ} {ds ts : List ℕ} {t v : ℕ} → Trail G s ds ts t v → Distinct (t ∷ ts)
distinct lone = (tt, tt)
distinct (more p st o) = (o, distinct p)

below : {G : Land} {s : ℕ} {ds ts : List ℕ} {t v : ℕ} → s < G.tiles → Trail G s ds ts t v → Below G.tiles (t ∷ ts)
below h lone = (h, tt)
below h (more p st o) = (st.into, below h p)

-- A trail to t of sum at most v; below v, unless it has n steps.
record Short (G : Land) (s t v n : ℕ) : Type 0 where
  ds : List ℕ
  ts : List ℕ
  sum : ℕ
  trail : Trail G s ds ts t sum
  fits : sum ≤ v
  cheaper : (length ds ≡ n) ⊎ (sum < v)

-- A trail cut off at a tile that it meets.
cut : {G : Land} {s : ℕ} {ds ts : List ℕ} {t v x : ℕ} → Trail G s ds ts t v → In x (t ∷ ts) → Short G s x v (length ds)
cut lone (inl e) = record { ds = []; ts = []; sum = 0; trail = rw e lone; fits = omega arith; cheaper = inl refl }
cut {G = G} {s = s} lone (inr i) = elim i [ ]
cut (more {ds = ds} {ts = ts} {u = u} {v = v} {d = d} {w = w} p st o) (inl e) =
    record { ds = d ∷ ds; ts = u ∷ ts; sum = v + w; trail = rw e (more p st o); fits = omega arith; cheaper = inl refl }
cut (more p st o) (inr i) =
    let c = cut p i in
    record { ds = c.ds; ts = c.ts; sum = c.sum; trail = c.trail; fits = omega (arith, c.fits); cheaper = inr (omega (arith, c.fits, st.paid)) }

-- Step by step along a walk: where it comes back to a tile of the trail so far, the trail is cut off there.
short : {G : Land} {s : ℕ} {ds : List ℕ} {t v : ℕ} → Walk G s ds t v → Short G s t v (length ds)
short here = record { ds = []; ts = []; sum = 0; trail = lone; fits = omega arith; cheaper = inl refl }
short {G} {s} (then {ds = es} {u = u} {v = v} {d = d} {t = t} {w = w} p st) = go (short p)
  where
    cheaper : (c : Short G s u v (length es)) → (length c.ds ≡ length es) ⊎ (c.sum < v) → (length (d ∷ c.ds) ≡ suc (length es)) ⊎ (c.sum + w < v + w)
    cheaper c (inl e) = inl (ap suc e)
    cheaper c (inr l) = inr (omega arith)

    step : (c : Short G s u v (length es)) → In t (u ∷ c.ts) ⊎ Out t (u ∷ c.ts) → Short G s t (v + w) (suc (length es))
    step c (inl i) =
        let k = cut c.trail i in
        record { ds = k.ds; ts = k.ts; sum = k.sum; trail = k.trail; fits = omega (arith, k.fits, c.fits); cheaper = inr (omega (arith, k.fits, c.fits, st.paid)) }
    step c (inr o) =
        record { ds = d ∷ c.ds; ts = u ∷ c.ts; sum = c.sum + w; trail = more c.trail st o; fits = omega (arith, c.fits); cheaper = cheaper c c.cheaper }

    go : Short G s u v (length es) → Short G s t (v + w) (suc (length es))
    go c = step c (seek t (u ∷ c.ts))

few : {G : Land} {s t v n : ℕ} → s < G.tiles → (c : Short G s t v n) → length c.ds < G.tiles
few {G} {t = t} h c = omega (arith, same_length c.trail, pigeon G.tiles (t ∷ c.ts) (distinct c.trail) (below h c.trail))

-- A walk to t of sum at most v, of fewer steps than there are tiles.
pub record Brief (G : Land) (s t v : ℕ) : Type 0 where
  pub dirs : List ℕ
  pub sum : ℕ
  pub path : Walk G s dirs t sum
  pub fits : sum ≤ v
  pub few : length dirs < G.tiles

pub brief : {G : Land} {s : ℕ} {ds : List ℕ} {t v : ℕ} → s < G.tiles → Walk G s ds t v → Brief G s t v
brief h p = let c = short p in record { dirs = c.ds; sum = c.sum; path = walk_of c.trail; fits = c.fits; few = few h c }

-- A least sum is the sum of such a walk, and every walk of that sum is such a walk.
pub least_brief : {G : Land} {s t v : ℕ} → s < G.tiles → Least G s t v → (ds : List ℕ) × Walk G s ds t v × (length ds < G.tiles)
least_brief {G} {s} {t} {v} h l =
    let c = brief h l.path in
    let e : c.sum ≡ v = omega (arith, c.fits, l.least c.dirs c.sum c.path) in
    (c.dirs, rw e at c.path, c.few)

pub least_few : {G : Land} {s t v : ℕ} {ds : List ℕ} → s < G.tiles → Least G s t v → Walk G s ds t v → length ds < G.tiles
least_few {G} {s} {t} {v} {ds} h l p = go (short p)
  where
    go : Short G s t v (length ds) → length ds < G.tiles
    go c = ⊎_elim (λ e. omega (arith, few h c)) (λ z. absurd (omega (arith, l.least c.ds c.sum (walk_of c.trail)))) c.cheaper

-- With steps of at most W: bounds on sums.
pub sum_capped : {G : Land} {s W : ℕ} {ds : List ℕ} {t v : ℕ} → Capped G W → Walk G s ds t v → v ≤ length ds * W
sum_capped C here = omega arith
sum_capped C (then {u = u} {d = d} {t = t} {w = w} p st) = omega (arith, sum_capped C p, C.cap u d t w st)

pub brief_capped : {G : Land} {s W t v : ℕ} → Capped G W → s < G.tiles → (c : Brief G s t v) → c.sum ≤ (G.tiles - 1) * W
brief_capped {G} {s} {W} C h c =
    le_trans (sum_capped C c.path) (mul-le-mul_right {m = length c.dirs} {n = G.tiles - 1} W (omega (arith, c.few)))

pub least_capped : {G : Land} {s W t v : ℕ} → Capped G W → s < G.tiles → Least G s t v → v ≤ (G.tiles - 1) * W
least_capped C h l =
    let c = brief h l.path in
    omega (arith, brief_capped C h c, l.least c.dirs c.sum c.path)
