-- What a turn of the engine does, what all turns do, and what the engine tells in the end. `to u d` is the tile that the step out of u by direction d leads to, and `cost u d` what it costs.
use Rattle.std.specs.Prelude.{◌≡◌, List, ℕ, ◌<◌, length}
use Rattle.paths.specs.Lands.{Land}
use Rattle.paths.specs.Tables.{Right}
use Rattle.paths.specs.Engines.{Going}
use Rattle.storage.specs.Maps.{map_refusal, area_of}
use Rattle.storage.specs.declared.Map.{Map}
use Rattle.engine.specs.Leaves.{no_total}
use Rattle.engine.specs.declared.trees.Tree.{Tree}
use Rattle.engine.specs.Settling.{totals, live, work, Leads, Goes}

-- The map is fine, and the efforts E have an entry for each of its tiles.
pub record OfMap (map : Map) (E : List ℕ) : Type 0 where
  pub fine : map_refusal map ≡ 0
  pub size : length E ≡ area_of map.radius

-- The land has a tiles, and these steps.
pub record Paved (G : Land) (a : ℕ) (to cost : ℕ → ℕ → ℕ) : Type 0 where
  pub tiles : G.tiles ≡ a
  pub mark : G.mark ≡ no_total
  pub leads : (u d : ℕ) → u < a → d < 6 → Leads G u d (to u d) (cost u d)

-- One tile more is settled.
pub record Turned (to cost : ℕ → ℕ → ℕ) (b : ℕ) (T T' : Tree) : Type 0 where
  pub tiles : T'.tiles ≡ T.tiles
  pub falls : work T' < work T
  pub goes : (G : Land) → Paved G T.tiles to cost → Goes G b T T' (live T) (live T')

-- All tiles are settled: what was right on the way is right.
pub record Finished (to cost : ℕ → ℕ → ℕ) (b : ℕ) (T T' : Tree) : Type 0 where
  pub tiles : T'.tiles ≡ T.tiles
  pub right : (G : Land) (s : ℕ) → Paved G T.tiles to cost → Going G (totals T) s b (live T) → Right G (totals T') s b

-- The leaves tell the least sums from s within the budget, over a tiles.
abbrev pub Settles : (ℕ → ℕ → ℕ) → (ℕ → ℕ → ℕ) → ℕ → ℕ → ℕ → Tree → Type 0
Settles to cost a b s T = (G : Land) → Paved G a to cost → Right G (totals T) s b
