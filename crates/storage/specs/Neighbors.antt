-- The neighbour of an index in a direction, by tiles: from the index back to its tile, a step in the direction, and the index of the tile that it leads to, where that is of the map.
use Rattle.std.specs.Prelude.{◌≡◌, cond, List, ℕ, ◌<◌, eqb, get_or, length, Option, None, Some}
use Rattle.hexes.specs.Answers.{Told, accepted, refused, refused_tile}
use Rattle.hexes.specs.Tiles.{neighbor_of}
use Rattle.hexes.specs.declared.Tile.{Tile}
use Rattle.storage.specs.Hexmod.{index, to_hexmod, FromHexmod}
use Rattle.storage.specs.declared.Index.{Index}
use Rattle.storage.specs.declared.Map.{Map}

-- What is told of the neighbour of an index: where the way back tells a tile, what the way there tells of its neighbour, so 5 if that is not of the map; where the way back refuses, that refusal.
pub record Neighbor (map : Map) (asked : Index) (d : ℕ) (told : Told Index) : Type 0 where
  pub leads : (t : Tile) → FromHexmod map asked (accepted t) → told ≡ to_hexmod map (neighbor_of t d)
  pub lost : (number : ℕ) → 0 < number → FromHexmod map asked (refused_tile number) → told ≡ refused (index 0) number

-- In a row of six the entry of a direction is the neighbour's index, or none.
abbrev pub entry_of : Told Index → Option Index
entry_of told = cond (eqb told.number 0) (Some told.value) None

-- The neighbours of an index in the six directions, in their order.
pub record SixNeighbors (map : Map) (asked : Index) (entries : List (Option Index)) : Type 0 where
  pub six : length entries ≡ 6
  pub each : (d : ℕ) → d < 6 → (told : Told Index) → Neighbor map asked d told → get_or entries d None ≡ entry_of told
