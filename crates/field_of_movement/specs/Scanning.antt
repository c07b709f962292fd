-- What a step offers as the code reckons it, and what the scan for a broken index answers. No public promise cites this file.
use Rattle.std.specs.Prelude.{◌≡◌, cond, List, ℕ, ◌+◌, ◌≤◌, ◌<◌, ltb, length, get_or, Option, None, Some}
use Rattle.hexes.specs.Limits.{no_way}
use Rattle.paths.specs.Lands.{Land}
use Rattle.paths.specs.NeighborRule.{want}

-- k is the lowest tile at which the rule is broken, or the number of tiles if it is broken at none.
pub record Scans (G : Land) (T : ℕ → ℕ) (s b k : ℕ) : Type 0 where
  pub at_most : k ≤ G.tiles
  pub before : (t : ℕ) → t < k → T t ≡ want G T s b t
  pub broken : k < G.tiles → T k ≡ want G T s b k → ⊥

-- A tile that was found, or the number of tiles.
abbrev pub tile_or : ℕ → Option ℕ → ℕ
tile_or tiles None = tiles
tile_or tiles (Some k) = k

-- What a step at a price offers by the total of the tile that it comes from; the mark where there is no such tile, or the price is 0.
abbrev pub offered : List ℕ → ℕ → ℕ → ℕ
offered totals from price = cond (ltb from (length totals)) (cond (ltb 0 price) (get_or totals from 0 + price) no_way) no_way
