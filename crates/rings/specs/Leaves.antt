-- What this crate's private functions answer: figures as legs, and how far they reach. No public promise cites this file; `proofs/Figures` shows that the figures are the lists
-- that the promises name.
use Rattle.std.specs.Prelude.{List, [], ◌∷◌, ℕ, zero, suc, ◌+◌, ◌-◌, ◌*◌, ◌/◌, ◌≤◌, nat_abs}
use Rattle.hexes.specs.Limits.{coordinate_limit, range_limit}
use Rattle.hexes.specs.declared.Tile.{Tile}
use Rattle.runs.specs.Lists.{gather, total}
use Rattle.rings.specs.Counts.{ring_count}
use Rattle.rings.specs.Rings.{along}
use Rattle.rings.specs.declared.figure.Figure.{Figure}
use Rattle.rings.specs.declared.figure.Leg.{Leg}
use Rattle.rings.specs.declared.figure.Shape.{Shape}

-- A tile whose coordinates are at most m in size. A centre is within the coordinate limit, and a corner one range further.
pub record Near (t : Tile) (m : ℕ) : Type 0 where
  pub near_x : nat_abs t.x ≤ m
  pub near_y : nat_abs t.y ≤ m

abbrev pub centre_reach : ℕ
centre_reach = coordinate_limit

abbrev pub corner_reach : ℕ
corner_reach = coordinate_limit + range_limit

-- The legs of a figure at a range.
abbrev pub legs_of : Shape → ℕ
legs_of Shape.Ring = 6
legs_of Shape.Edge = 1
legs_of Shape.Corner = 2

unfoldable pub ring_leg : ℕ → ℕ → ℕ
ring_leg zero zero = 1
ring_leg zero (suc i) = 0
ring_leg (suc n) i = suc n

abbrev pub leg_at : Shape → ℕ → ℕ → ℕ → ℕ → Leg
leg_at Shape.Ring direction sense n i = record { out = direction + (1 + 4 * sense) * i; sense = sense; skip = 0; count = ring_leg n i }
leg_at Shape.Edge direction sense n i = record { out = direction + sense; sense = sense; skip = 0; count = n + 1 }
leg_at Shape.Corner direction sense n i = record { out = direction; sense = i; skip = i; count = n / 2 + 1 - i }

-- The tiles of a leg, of a figure at a range, and of a figure at some ranges.
abbrev pub tiles_from : Tile → ℕ → ℕ → ℕ → List Tile
tiles_from from direction skip count = gather (λ k. along from direction (skip + k) ∷ []) count

abbrev pub leg_tiles : Tile → ℕ → Leg → List Tile
leg_tiles centre n leg = tiles_from (along centre leg.out n) (leg.out + 2 + 2 * leg.sense) leg.skip leg.count

abbrev pub figure_at : Figure → Tile → ℕ → List Tile
figure_at figure centre n = gather (λ i. leg_tiles centre n (leg_at figure.shape figure.direction figure.sense n i)) (legs_of figure.shape)

abbrev pub figures : Figure → Tile → ℕ → ℕ → List Tile
figures figure centre first count = gather (λ k. figure_at figure centre (first + k)) count

-- The numbers of a leg and of a figure that are small enough to be summed.
pub record LegFits (leg : Leg) : Type 0 where
  pub fits_out : leg.out ≤ 30
  pub fits_sense : leg.sense ≤ 1
  pub fits_count : leg.skip + leg.count ≤ range_limit + 1

pub record Fits (figure : Figure) : Type 0 where
  pub fits_direction : figure.direction ≤ 5
  pub fits_sense : figure.sense ≤ 1

-- How many tiles a shape has at a range, and at some ranges.
abbrev pub tiles_at : Shape → ℕ → ℕ
tiles_at Shape.Ring n = ring_count n
tiles_at Shape.Edge n = n + 1
tiles_at Shape.Corner n = 2 * (n / 2) + 1

abbrev pub tiles_of : Shape → ℕ → ℕ → ℕ
tiles_of shape first count = total (λ k. tiles_at shape (first + k)) count
