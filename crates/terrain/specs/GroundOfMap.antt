-- The ground of a map with efforts, over which routes go: its tiles are the dense indices, and a step leads to the neighbour in its direction.
use Rattle.std.specs.Prelude.{List, ℕ, get_or}
use Rattle.routes.specs.Grounds.{Ground, even_ground}
use Rattle.hexes.specs.Limits.{barred}
use Rattle.storage.specs.Leaves.{near_in}
use Rattle.storage.specs.Maps.{area_of}
use Rattle.storage.specs.declared.Map.{Map}

abbrev pub ground_of : Map → List ℕ → Ground
ground_of map efforts = even_ground (area_of map.radius) barred (near_in map) (λ t. get_or efforts t 0)
