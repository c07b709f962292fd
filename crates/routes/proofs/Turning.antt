-- Routes to e are the walks from e over the ground turned round, with the same list of directions, whatever a unit of effort weighs.
use mathlib.Core.Path.{◌≡◌, refl, sym, ap, ◌∙◌}
use mathlib.Core.Bool.{Bool, true, false, cond}
use mathlib.Core.List.{List}
use Prim.Native.Nat.{ℕ, ◌+◌, ◌*◌, ◌<◌}
use native.Mathlib.Omega.{arith}
use borrow.Author.Tests.{lt-ltb, ltb-true}
use lib.Dec.{ltb}
use lib.ListN.{length}
use Rattle.paths.specs.Lands.{Step, Walk, here, then}
use Rattle.routes.specs.Grounds.{Ground, OpenTile, OpenStep}
use Rattle.routes.specs.Routes.{Route, there, first}
use Rattle.routes.specs.Turned.{turned}

-- Both ends of a route are open.
pub route_start : {G : Ground} {e u v : ℕ} {ds : List ℕ} → Route G e u ds v → OpenTile G u
route_start (there o) = o
route_start (first o st r) = o

pub route_end : {G : Ground} {e u v : ℕ} {ds : List ℕ} → Route G e u ds v → OpenTile G e
route_end (there o) = o
route_end (first o st r) = route_end r

-- What the two tests of a weight let through, and what they tell if it is not 0.
passed : {b c : Bool} {x y : ℕ} → b ≡ true → c ≡ true → x ≡ y → cond b (cond c x 0) 0 ≡ y
passed p q e = rw (p, q, e)

some : (b : Bool) (x w : ℕ) → cond b x 0 ≡ w → 0 < w → (b ≡ true) × (x ≡ w)
some true x w e h = (refl, e)
some false x w e h = absurd (omega arith)

module _ (G : Ground) (m : ℕ) where
  turn : {u d t w : ℕ} → OpenTile G u → OpenTile G t → OpenStep G u d t w → Step (turned G m) t d u (w * m + 1)
  turn {u} {d} {t} {w} o o' st =
      let e : G.effort (G.next u d) d ≡ w = ap (λ (k : ℕ). G.effort k d) st.leads ∙ st.price in
      let free : ltb (G.effort (G.next u d) d) G.barred ≡ true = lt-ltb (G.effort (G.next u d) d) G.barred (omega (arith, st.unbarred)) in
      record { into = o.on; dir = st.dir; from = st.leads; on = o'.on; price = passed o.is_open free (ap (λ (k : ℕ). k * m + 1) e); paid = omega arith }

  -- A step of the turned ground is an open step of the ground, out of an open tile.
  pub record Unturned (u d t weight : ℕ) : Type 0 where
    pub effort : ℕ
    pub tile : OpenTile G u
    pub step : OpenStep G u d t effort
    pub weighs : weight ≡ effort * m + 1

  pub unturn : {t d u x : ℕ} → Step (turned G m) t d u x → Unturned u d t x
  unturn {t} {d} {u} {x} st =
      let w : ℕ = G.effort (G.next u d) d in
      let a = some (G.is_open u) (cond (ltb w G.barred) (w * m + 1) 0) x st.price st.paid in
      let b = some (ltb w G.barred) (w * m + 1) x a.1 st.paid in
      record {
        effort = w;
        tile = record { on = st.into; is_open = a.0 };
        step =
            record {
              dir = st.dir;
              leads = st.from;
              price = ap (λ (k : ℕ). G.effort k d) (sym st.from);
              unbarred = ltb-true w G.barred b.0;
            };
        weighs = sym b.1;
      }

  summed : {e u x y : ℕ} {ds : List ℕ} → Walk (turned G m) e ds u x → x ≡ y → Walk (turned G m) e ds u y
  summed p q = rw q at p

  pub route_walk : {e u v : ℕ} {ds : List ℕ} → Route G e u ds v → Walk (turned G m) e ds u (v * m + length ds)
  route_walk (there o) = summed here (omega arith)
  route_walk (first o st r) = summed (then (route_walk r) (turn o (route_start r) st)) (omega arith)

  -- The route of a walk.
  pub record Routed (e u : ℕ) (ds : List ℕ) (sum : ℕ) : Type 0 where
    pub cost : ℕ
    pub route : Route G e u ds cost
    pub splits : sum ≡ cost * m + length ds

  pub walk_route : {e u x : ℕ} {ds : List ℕ} → OpenTile G e → Walk (turned G m) e ds u x → Routed e u ds x
  walk_route o here = record { cost = 0; route = there o; splits = omega arith }
  walk_route o (then p st) =
      let r = walk_route o p in
      let g = unturn st in
      record { cost = g.effort + r.cost; route = first g.tile g.step r.route; splits = omega (arith, r.splits, g.weighs) }
