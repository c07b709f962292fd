-- A path is a list of one or more tiles of a map, neighbours in it at distance 1. An effort table has an entry for each tile of the map, in dense-index order; 65535 bars the tile.
use Rattle.std.specs.Prelude.{◌≡◌, true, List, [], ◌∷◌, ℕ, ◌+◌, ◌≤◌, ◌<◌, length, get_or}
use Rattle.hexes.specs.Limits.{barred, no_way}
use Rattle.hexes.specs.Tiles.{distance_of}
use Rattle.hexes.specs.declared.Tile.{Tile}
use Rattle.storage.specs.Hexmod.{index_in}
use Rattle.storage.specs.Maps.{of_map, area_of}
use Rattle.storage.specs.declared.Map.{Map}

-- The entry of a tile in a table. (The last argument of `get_or` is for a place past the table's end, where no tile of the map is.)
abbrev pub entry_at : Map → List ℕ → Tile → ℕ
entry_at map table t = get_or table (index_in map t) 0

-- What the step from one tile into another asks: the effort of the tile that is entered.
abbrev pub effort_into : Map → List ℕ → Tile → Tile → ℕ
effort_into map efforts from into = entry_at map efforts into

-- A path: its first tile, and the tiles that it enters after that.
abbrev pub Path : Map → Tile → List Tile → Type 0
Path map a [] = of_map map a ≡ true
Path map a (b ∷ ts) = (of_map map a ≡ true) × ((distance_of a b ≡ 1) × Path map b ts)

abbrev pub last_of : Tile → List Tile → Tile
last_of a [] = a
last_of a (b ∷ ts) = last_of b ts

-- It enters only open tiles.
abbrev pub OnlyOpen : Map → List ℕ → Tile → List Tile → Type 0
OnlyOpen map efforts a [] = Unit {0}
OnlyOpen map efforts a (b ∷ ts) = (effort_into map efforts a b ≡ barred → ⊥) × OnlyOpen map efforts b ts

-- The sum of effort + 1 over the tiles that it enters.
abbrev pub sum_of : Map → List ℕ → Tile → List Tile → ℕ
sum_of map efforts a [] = 0
sum_of map efforts a (b ∷ ts) = (effort_into map efforts a b + 1) + sum_of map efforts b ts

-- A path from one tile to another that enters only open tiles.
pub record Leading (map : Map) (efforts : List ℕ) (start end : Tile) (entered : List Tile) : Type 0 where
  pub path : Path map start entered
  pub ends : last_of start entered ≡ end
  pub opens : OnlyOpen map efforts start entered

-- The least sum over all such paths.
pub record LeastSum (map : Map) (efforts : List ℕ) (start end : Tile) (least : ℕ) : Type 0 where
  pub by : List Tile
  pub leads : Leading map efforts start end by
  pub is : sum_of map efforts start by ≡ least
  pub at_most : (entered : List Tile) → Leading map efforts start end entered → least ≤ sum_of map efforts start entered

-- The table of a riding range: the entry of a tile is the least sum, where it is within the budget; otherwise 4294967295.
pub record LeastTotals (map : Map) (efforts : List ℕ) (start : Tile) (budget : ℕ) (totals : List ℕ) : Type 0 where
  pub size : length totals ≡ area_of map.radius
  pub within : (t : Tile) → of_map map t ≡ true → (least : ℕ) → LeastSum map efforts start t least → least ≤ budget → entry_at map totals t ≡ least
  pub otherwise : (t : Tile) → of_map map t ≡ true → ((least : ℕ) → LeastSum map efforts start t least → budget < least) → entry_at map totals t ≡ no_way
