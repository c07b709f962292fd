-- The rank of a tile: one number that tells the least cost of the routes from it to the end, and the fewest steps at that cost.
use Rattle.std.specs.Prelude.{◌≡◌, List, ℕ, ◌+◌, ◌*◌, ◌≤◌, ◌<◌, length}
use Rattle.routes.specs.Grounds.{Ground}
use Rattle.routes.specs.Routes.{Route, NoRoute}

-- What one unit of cost counts in a rank. The fewest steps stay below it, so they and the cost do not mix.
abbrev pub multiplier : ℕ
multiplier = 65536

-- The rank where there is no route: the largest 64-bit number.
abbrev pub no_rank : ℕ
no_rank = 18446744073709551615

-- v is the least cost of the routes from u to e.
pub record LeastCost (G : Ground) (e u v : ℕ) : Type 0 where
  pub dirs : List ℕ
  pub route : Route G e u dirs v
  pub least : (es : List ℕ) (x : ℕ) → Route G e u es x → v ≤ x

-- n is the fewest steps of the routes from u to e of cost v.
pub record FewestSteps (G : Ground) (e u v n : ℕ) : Type 0 where
  pub dirs : List ℕ
  pub route : Route G e u dirs v
  pub steps : length dirs ≡ n
  pub fewest : (es : List ℕ) → Route G e u es v → n ≤ length es

-- r is the rank of tile u, for the end e.
pub data RankOf (G : Ground) (e u r : ℕ) : Type 0 where
  near : {v n : ℕ} → LeastCost G e u v → FewestSteps G e u v n → r ≡ v * multiplier + n → RankOf G e u r
  far : NoRoute G e u → r ≡ no_rank → RankOf G e u r

-- The table T holds the rank of every tile.
pub record Ranks (G : Ground) (e : ℕ) (T : ℕ → ℕ) : Type 0 where
  pub each : (u : ℕ) → u < G.tiles → RankOf G e u (T u)

-- The ground is small enough for ranks: no fewest steps reach the multiplier, and no rank of a route reaches the mark.
pub record Fits (G : Ground) : Type 0 where
  pub tiles : G.tiles ≤ multiplier
  pub efforts : G.barred ≤ multiplier
