-- The neighbour rule, which can be tested tile by tile, and the verdict on a table of totals.
use Rattle.std.specs.Prelude.{◌≡◌, true, List, ℕ, ◌+◌, ◌≤◌, ◌<◌}
use Rattle.hexes.specs.Limits.{barred, no_way}
use Rattle.hexes.specs.Refusals.{not_right}
use Rattle.hexes.specs.Tiles.{distance_of}
use Rattle.hexes.specs.declared.Tile.{Tile}
use Rattle.storage.specs.Hexmod.{index_in}
use Rattle.storage.specs.Maps.{of_map}
use Rattle.storage.specs.declared.Map.{Map}
use Rattle.terrain.specs.TilePaths.{entry_at}

-- The smallest entry among the neighbours of a tile in the map that are not 4294967295.
pub record Smallest (map : Map) (totals : List ℕ) (t : Tile) (smallest : ℕ) : Type 0 where
  pub of : Tile
  pub on : of_map map of ≡ true
  pub beside : distance_of t of ≡ 1
  pub is : entry_at map totals of ≡ smallest
  pub reached : smallest ≡ no_way → ⊥
  pub at_most : (u : Tile) → of_map map u ≡ true → distance_of t u ≡ 1 → (entry_at map totals u ≡ no_way → ⊥) → smallest ≤ entry_at map totals u

-- The rule at a tile. The start has 0. A barred tile other than the start has 4294967295. An open tile other than the start has the smallest entry and effort + 1, if there is one and the
-- sum is within the budget; else 4294967295.
pub record Keeps (map : Map) (efforts : List ℕ) (start : Tile) (budget : ℕ) (totals : List ℕ) (t : Tile) : Type 0 where
  pub home : t ≡ start → entry_at map totals t ≡ 0
  pub shut : (t ≡ start → ⊥) → entry_at map efforts t ≡ barred → entry_at map totals t ≡ no_way
  pub within : (t ≡ start → ⊥) → (entry_at map efforts t ≡ barred → ⊥) → (smallest : ℕ) → Smallest map totals t smallest → smallest + (entry_at map efforts t + 1) ≤ budget → entry_at map totals t ≡ smallest + (entry_at map efforts t + 1)
  pub otherwise : (t ≡ start → ⊥) → (entry_at map efforts t ≡ barred → ⊥) → ((smallest : ℕ) → Smallest map totals t smallest → budget < smallest + (entry_at map efforts t + 1)) → entry_at map totals t ≡ no_way

-- The verdict on a table, a number and an index: 0 and 0 if every tile of the map keeps the rule; else 9 and the lowest index of a tile that breaks it.
pub data Verdict (map : Map) (efforts : List ℕ) (start : Tile) (budget : ℕ) (totals : List ℕ) (number index : ℕ) : Type 0 where
  right : number ≡ 0 → index ≡ 0 → ((t : Tile) → of_map map t ≡ true → Keeps map efforts start budget totals t) → Verdict map efforts start budget totals number index
  broken : number ≡ not_right → (t : Tile) → of_map map t ≡ true → index_in map t ≡ index → (Keeps map efforts start budget totals t → ⊥)
      → ((u : Tile) → of_map map u ≡ true → index_in map u < index → Keeps map efforts start budget totals u) → Verdict map efforts start budget totals number index
