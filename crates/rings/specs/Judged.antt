-- How a listing's arguments are judged, the lowest number first: 1 for a centre beyond the limit, 2 for a first or last range beyond its limit, also where first is above last,
-- 3 for a direction or vertex that is not 0 to 5 or a sense that is not 0 or 1. 0 is no refusal.
use Rattle.std.specs.Prelude.{◌&&◌, ℕ, leb}
use Rattle.hexes.specs.Answers.{provided}
use Rattle.hexes.specs.Limits.{range_limit}
use Rattle.hexes.specs.Refusals.{beyond_limit, too_large, unknown_number}
use Rattle.hexes.specs.Tiles.{within_limit}
use Rattle.hexes.specs.declared.Tile.{Tile}

unfoldable pub refusal_of : Tile → ℕ → ℕ → ℕ → ℕ → ℕ
refusal_of centre first last direction sense =
    provided (within_limit centre) beyond_limit
    (provided (leb first range_limit && leb last range_limit) too_large
    (provided (leb direction 5 && leb sense 1) unknown_number 0))
