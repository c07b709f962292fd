-- A ground is a finite set of tiles that routes go over: where each step leads, which tiles and steps are open, and what a step takes. Nothing here speaks of hexagons.
use Rattle.std.specs.Prelude.{◌≡◌, Bool, true, ℕ, ◌<◌, ltb}

-- The tiles are 0 to tiles - 1. The step of direction d, 0 to 5, from tile u leads into tile `next u d`; where that is no tile there is no such neighbour. A route touches
-- tile t only if `is_open t` is true. To enter tile t by direction d takes `effort t d`; if that is `barred` or more, the step may not be made.
pub record Ground : Type 0 where
  pub tiles : ℕ
  pub barred : ℕ
  pub next : ℕ → ℕ → ℕ
  pub is_open : ℕ → Bool
  pub effort : ℕ → ℕ → ℕ

-- The ground on which a tile has one effort, by whatever direction it is entered, and is open if that is below `barred`. So all tiles of a route are open, both ends included.
-- A ground that has an effort for each way in, and on which only the steps made have to be open, differs from it in the last line alone: there all tiles are open.
abbrev pub even_ground : ℕ → ℕ → (ℕ → ℕ → ℕ) → (ℕ → ℕ) → Ground
even_ground tiles barred next effort =
    record { tiles = tiles; barred = barred; next = next; is_open = λ t. ltb (effort t) barred; effort = λ t d. effort t }

-- t is an open tile of the ground.
pub record OpenTile (G : Ground) (t : ℕ) : Type 0 where
  pub on : t < G.tiles
  pub is_open : G.is_open t ≡ true

-- The step of direction d from u leads to t, may be made, and takes the effort w.
pub record OpenStep (G : Ground) (u d t w : ℕ) : Type 0 where
  pub dir : d < 6
  pub leads : G.next u d ≡ t
  pub price : G.effort t d ≡ w
  pub unbarred : w < G.barred
