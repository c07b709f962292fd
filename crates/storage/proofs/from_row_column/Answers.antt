-- `from_row_column` meets its contract: no tile of the map has a row or a column above 2r, and of the others one tile can have them.
use mathlib.Core.Path.{sym, ap, ◌∙◌}
use Rattle.storage.specs.Leaves.{tile_at_row}
use Rattle.storage.specs.Maps.{of_map}
use Rattle.storage.specs.declared.Map.{Map}
use Rattle.storage.proofs.Ending.{from_fine}
use Rattle.storage.proofs.Maps.{fine_of}
use Rattle.storage.proofs.Rows.{the_tile_at, no_tile_at, no_such_row, no_such_column}
use Rattle.storage.proofs.from_row_column.Goals as goal

pub returns-then-at-map : goal.returns-then-at-map
returns-then-at-map c = from_fine _ _ _ (fine_of c.in_ok-fine.fine _ c.in_ok-fine.ensures) (no_such_row _ _ c.if-at-map.true)

pub returns-then-at-map-2 : goal.returns-then-at-map-2
returns-then-at-map-2 c = from_fine _ _ _ (fine_of c.in_ok-fine.fine _ c.in_ok-fine.ensures) (no_such_column _ _ c.if-at-map-2.true)

pub returns-then-not-is_of_map : goal.returns-then-not-is_of_map
returns-then-not-is_of_map c =
    let t = c.tile_at_row-tile.ensures ∙ ap (λ (map : Map). tile_at_row map c.args.at.row c.args.at.column) c.in_ok-fine.ensures in
    from_fine _ _ _ (fine_of c.in_ok-fine.fine _ c.in_ok-fine.ensures) (no_tile_at _ _ (ap (of_map _) (sym t) ∙ sym c.if-not-is_of_map.ensures))

pub returns : goal.returns
returns c =
    let t = c.tile_at_row-tile.ensures ∙ ap (λ (map : Map). tile_at_row map c.args.at.row c.args.at.column) c.in_ok-fine.ensures in
    from_fine _ _ _ (fine_of c.in_ok-fine.fine _ c.in_ok-fine.ensures) (the_tile_at _ _ (ap (of_map _) (sym t) ∙ sym c.if-not-is_of_map.ensures) _ t)
