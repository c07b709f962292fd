-- What the private functions of this crate answer, in the theory's words. No public promise cites this file.
use Rattle.std.specs.Prelude.{◌≡◌, cond, List, [], map, ℕ, ◌+◌, ◌*◌, ◌<◌, ltb, ℤ, length, get_or}
use Rattle.paths.specs.Tables.{at}
use Rattle.routes.specs.Descents.{Descent}
use Rattle.routes.specs.Ranks.{multiplier, no_rank}
use Rattle.routes.specs.Routes.{tiles_of}
use Rattle.routes.specs.Turned.{turned}
use Rattle.hexes.specs.Answers.{Answer}
use Rattle.hexes.specs.Limits.{barred}
use Rattle.hexes.specs.Refusals.{no_open_path}
use Rattle.hexes.specs.declared.Tile.{Tile}
use Rattle.runs.specs.Laid.{Laid}
use Rattle.runs.specs.Runs.{Lists}
use Rattle.storage.specs.Leaves.{tile_at_index}
use Rattle.storage.specs.Maps.{map_refusal, area_of}
use Rattle.storage.specs.declared.Map.{Map}
use Rattle.terrain.specs.GroundOfMap.{ground_of}

-- An open tile of a fine map that has a rank; both tables have an entry for each tile.
pub record Ranked (map : Map) (efforts ranks : List ℕ) (u : ℕ) : Type 0 where
  pub fine : map_refusal map ≡ 0
  pub efforts_length : length efforts ≡ area_of map.radius
  pub ranks_length : length ranks ≡ area_of map.radius
  pub on : u < area_of map.radius
  pub is_open : get_or efforts u 0 < barred
  pub has : get_or ranks u 0 < no_rank

-- What the step from an open tile into tile t offers: the rank of t and the step's weight, or the mark.
unfoldable pub offer_of : List ℕ → List ℕ → ℕ → ℕ
offer_of efforts ranks t = cond (ltb t (length ranks)) (cond (ltb (get_or efforts t 0) barred) (get_or ranks t 0 + (get_or efforts t 0 * multiplier + 1)) no_rank) no_rank

-- The tiles of the way from tile u by these directions.
abbrev pub tiles_down : Map → List ℕ → ℕ → List ℕ → List Tile
tiles_down m efforts u ds = map (tile_at_index m) (tiles_of (ground_of m efforts) u ds)

-- The tiles of the way down the ranks stand in the run from its front on.
abbrev pub LaysDown : Map → List ℕ → List ℕ → ℕ → ℕ → List ℤ → ℕ → List ℤ → Type 0
LaysDown map efforts ranks start end entry next exit =
    (ds : List ℕ) → Descent (turned (ground_of map efforts) multiplier) (at ranks) end start ds → Laid entry 0 (tiles_down map efforts start ds) next exit

-- What is answered and left in the run: 8 if the start has no rank; else the tiles of the way down from it, or 7.
pub data TellsWay (map : Map) (efforts ranks : List ℕ) (start end : ℕ) (entry : List ℤ) (r : Answer ℕ) (exit : List ℤ) : Type 0 where
  lost : get_or ranks start 0 ≡ no_rank → Lists no_open_path [] entry r exit → TellsWay map efforts ranks start end entry r exit
  led : get_or ranks start 0 < no_rank → (ds : List ℕ) → Descent (turned (ground_of map efforts) multiplier) (at ranks) end start ds → Lists 0 (tiles_down map efforts start ds) entry r exit → TellsWay map efforts ranks start end entry r exit
