-- A least sum over the turned ground is a rank, because the fewest steps stay below the multiplier.
use mathlib.Core.Path.{◌≡◌, refl}
use mathlib.Core.List.{List}
use Prim.Native.Nat.{ℕ, suc, ◌+◌, ◌*◌, ◌≤◌, ◌<◌}
use native.Mathlib.Decide.{dec_le}
use native.Mathlib.Nat.{mul-le-mul_right}
use native.Mathlib.Omega.{arith}
use lib.ListN.{length}
use Rattle.paths.specs.Lands.{Least}
use Rattle.paths.specs.Tables.{Capped}
use Rattle.paths.proofs.ShortWalks.{Brief, brief}
use Rattle.routes.specs.Grounds.{Ground, OpenTile}
use Rattle.routes.specs.Routes.{Route}
use Rattle.routes.specs.Ranks.{multiplier, LeastCost, FewestSteps, RankOf, near, Fits}
use Rattle.routes.specs.Turned.{turned}
use Rattle.routes.proofs.Turning.{route_end, unturn, route_walk, Routed, walk_route}

-- A route from u of cost at most x, and of fewer steps than there are tiles.
pub record Straight (G : Ground) (e u x : ℕ) : Type 0 where
  pub dirs : List ℕ
  pub cost : ℕ
  pub route : Route G e u dirs cost
  pub costs : cost ≤ x
  pub few : length dirs < G.tiles

-- With fewer than m steps, the cost decides.
cost_decides : (v x k n m : ℕ) → v * m + k ≤ x * m + n → n < m → v ≤ x
cost_decides v x k n m h j = go (dec_le v x)
  where
    go : Dec (v ≤ x) → v ≤ x
    go (yes l) = l
    go (no l) =
        let z : suc x * m ≤ v * m = mul-le-mul_right m (omega arith) in
        absurd (omega arith)

-- A route without rounds costs no more. It is seen on the turned ground on which a unit of effort weighs more than all steps of the given route.
pub straight : {G : Ground} {e u x : ℕ} {es : List ℕ} → Route G e u es x → Straight G e u x
straight {G} {e} {u} {x} {es} r =
    let m : ℕ = suc (length es) in
    let c : Brief (turned G m) e u (x * m + length es) = brief (route_end r).on (route_walk G m r) in
    let p : Routed G m e u c.dirs c.sum = walk_route G m (route_end r) c.path in
    record {
      dirs = c.dirs;
      cost = p.cost;
      route = p.route;
      costs = cost_decides p.cost x (length c.dirs) (length es) m (omega (arith, c.fits, p.splits)) (omega arith);
      few = c.few;
    }

-- What the heaviest step of the turned ground weighs, at most. Ranks stay far below the mark.
abbrev pub heaviest : ℕ
heaviest = multiplier * multiplier

pub turned_capped : {G : Ground} → Fits G → Capped (turned G multiplier) heaviest
turned_capped {G} F =
    record { cap = λ u d t w st. let g = unturn G multiplier st in omega (arith, g.weighs, g.step.unbarred, F.efforts) }

-- The walk of a least sum is a route of least cost, and of the fewest steps at that cost.
module _ {G : Ground} {e u r v : ℕ} (l : Least (turned G multiplier) e u r) (q : Route G e u l.dirs v) (z : r ≡ v * multiplier + length l.dirs) where
  pub least_cost : Fits G → LeastCost G e u v
  least_cost F = record { dirs = l.dirs; route = q; least = λ es x p. go x (straight p) }
    where
      go : (x : ℕ) → Straight G e u x → v ≤ x
      go x c =
          let a = l.least c.dirs (c.cost * multiplier + length c.dirs) (route_walk G multiplier c.route) in
          omega (arith, c.few, c.costs, F.tiles)

  pub fewest_steps : FewestSteps G e u v (length l.dirs)
  fewest_steps =
      record {
        dirs = l.dirs;
        route = q;
        steps = refl;
        fewest = λ es p. omega (arith, l.least es (v * multiplier + length es) (route_walk G multiplier p));
      }

pub least_rank : {G : Ground} {e u r : ℕ} → Fits G → OpenTile G e → Least (turned G multiplier) e u r → RankOf G e u r
least_rank {G} F o l =
    let p = walk_route G multiplier o l.path in
    near (least_cost l p.route p.splits F) (fewest_steps l p.route p.splits) p.splits
