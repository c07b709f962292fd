-- The land of a map with efforts: where hexagons and paths meet. Its tiles are the dense indices; a step of direction d into a tile comes from the neighbour in the opposite direction.
use Rattle.std.specs.Prelude.{cond, List, ℕ, ◌+◌, ◌%◌, eqb, get_or}
use Rattle.paths.specs.Lands.{Land}
use Rattle.hexes.specs.Limits.{barred}
use Rattle.storage.specs.Leaves.{near_in}
use Rattle.storage.specs.Maps.{area_of}
use Rattle.storage.specs.declared.Map.{Map}

-- What entering a tile of an effort costs: one more than the effort; 0, which shuts the step, for a barred tile.
unfoldable pub price_of : ℕ → ℕ
price_of effort = cond (eqb effort barred) 0 (effort + 1)

-- The direction that leads back.
abbrev pub against : ℕ → ℕ
against d = (d + 3) % 6

-- `mark` is the number that stands for no way.
abbrev pub land_of : Map → List ℕ → ℕ → Land
land_of map efforts mark = record { tiles = area_of map.radius; mark = mark; prev = λ t d. near_in map t (against d); cost = λ t d. price_of (get_or efforts t 0) }
