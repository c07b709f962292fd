-- `MapTile::at` meets its contract: below the area the tile of the strip has the index, and from there on no tile has it.
use mathlib.Core.Path.{sym, ap, ◌∙◌}
use native.Mathlib.Omega.{arith}
use Rattle.storage.specs.Hexmod.{index, index_in}
use Rattle.storage.specs.Maps.{of_map, area_of}
use Rattle.storage.specs.declared.Map.{Map}
use Rattle.storage.proofs.Back.{tile_of_map, tile_has_index, no_tile_of}
use Rattle.storage.proofs.Ending.{from_fine}
use Rattle.storage.proofs.Maps.{fine_of}
use Rattle.storage.proofs.map_tile.MapTile.at.Goals as goal

pub returns-then-index-area : goal.returns-then-index-area
returns-then-index-area c =
    let e = ap (λ (map : Map). area_of map.radius) c.in_ok-fine.ensures in
    from_fine _ _ _ (fine_of c.in_ok-fine.fine _ c.in_ok-fine.ensures) (no_tile_of _ _ (omega (arith, e)))

pub invariant_of-result : goal.invariant_of-result
invariant_of-result c =
    record { of = ap (of_map _) c.tile_at.ensures ∙ tile_of_map _ c.args.index.0 (omega arith) }

pub returns : goal.returns
returns c =
    let map = c.in_ok-fine.fine.map in
    let has = ap (index_in map) c.tile_at.ensures ∙ tile_has_index map c.args.index.0 (omega arith) in
    (c.in_ok-fine.ensures, ap index (sym has))
