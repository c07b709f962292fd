-- `within_limit` meets its contract: the tile's place is judged, and a tile is found there exactly within the limit.
use mathlib.Core.Path.{ap, ◌∙◌}
use Rattle.hexes.specs.Tiles.{tile_at, within_limit}
use Rattle.hexes.specs.declared.Place.{Place}
use Rattle.hexes.proofs.Judging.{judged_is_ok}
use Rattle.hexes.proofs.within_limit.Goals as goal

pub returns : goal.returns
returns c =
    c.is_ok.ensures.value ∙ judged_is_ok _ _ c.try_from.ensures ∙ ap (λ (p : Place). within_limit (tile_at p)) c.from.ensures
