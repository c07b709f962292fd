-- An engine that stops is right, whatever its order was; and only one table is right.
use mathlib.Core.Path.{◌≡◌}
use mathlib.Core.List.{List}
use Prim.Native.Nat.{ℕ, ◌≤◌, ◌<◌}
use native.Mathlib.Decide.{dec_le, dec_lt}
use native.Mathlib.Omega.{arith}
use Rattle.paths.specs.Lands.{Land, Walk, here, then}
use Rattle.paths.specs.Tables.{Right}
use Rattle.paths.specs.Engines.{Reached, Settled}

-- A table is right whose entries are sums of walks, none above the sum of a walk within the budget.
pub right_by : (G : Land) (T : ℕ → ℕ) (s b : ℕ)
    → ((t : ℕ) → t < G.tiles → T t < G.mark → Reached G s b t (T t))
    → ((t : ℕ) → t < G.tiles → T t ≤ G.mark)
    → ((ds : List ℕ) (t v : ℕ) → Walk G s ds t v → v ≤ b → v < G.mark → T t ≤ v)
    → Right G T s b
right_by G T s b sound blank low =
    record {
      found =
          λ t h m.
          let z = sound t h m in (
            record {
              dirs = z.0.0;
              path = z.0.1;
              least = λ ds x p. elim (dec_le (T t) x) [ yes l ↦ l | no l ↦ absurd (omega (arith, low ds t x p (omega (arith, z.1)) (omega arith))) ];
            },
            z.1,
          );
      missed =
          λ t h m.
          (omega (arith, blank t h), λ ds x p l. elim (dec_le G.mark x) [ yes k ↦ k | no k ↦ absurd (omega (arith, low ds t x p (omega arith) (omega arith))) ]);
    }

-- Where no open step lowers an entry, no walk does.
under : (G : Land) (T : ℕ → ℕ) (s b : ℕ) → Settled G T s b → {ds : List ℕ} {t v : ℕ} → Walk G s ds t v → v ≤ b → v < G.mark → T t ≤ v
under G T s b S here h m = omega (arith, S.home)
under G T s b S (then {u = u} {v = v} {d = d} {t = t} {w = w} p st) h m =
    let i : T u ≤ v = under G T s b S p (omega arith) (omega arith) in
    omega (arith, S.still u d t w st (omega arith) (omega arith))

pub settled_right : (G : Land) (T : ℕ → ℕ) (s b : ℕ) → Settled G T s b → Right G T s b
settled_right G T s b S = right_by G T s b S.sound S.blank (λ ds t v p. under G T s b S p)

-- Right tables are equal at every tile.
pub right_unique : (G : Land) (T T' : ℕ → ℕ) (s b : ℕ) → Right G T s b → Right G T' s b → (t : ℕ) → t < G.tiles → T t ≡ T' t
right_unique G T T' s b R R' t h = go (dec_lt (T t) G.mark) (dec_lt (T' t) G.mark)
  where
    -- What one table finds the other does not miss.
    not_missed : (U U' : ℕ → ℕ) → Right G U s b → Right G U' s b → U t < G.mark → G.mark ≤ U' t → ⊥
    not_missed U U' Q Q' m m' = let l = Q.found t h m in omega (arith, (Q'.missed t h m').1 _ _ l.0.path l.1)

    go : Dec (T t < G.mark) → Dec (T' t < G.mark) → T t ≡ T' t
    go (yes m) (yes m') =
        let l = (R.found t h m).0 in
        let l' = (R'.found t h m').0 in
        omega (arith, l.least _ _ l'.path, l'.least _ _ l.path)
    go (yes m) (no m') = absurd (not_missed T T' R R' m (omega arith))
    go (no m) (yes m') = absurd (not_missed T' T R' R m' (omega arith))
    go (no m) (no m') = omega (arith, (R.missed t h (omega arith)).0, (R'.missed t h (omega arith)).0)
