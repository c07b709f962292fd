-- `to_width` meets its contract: of a tile within the limit, what the column is made of fits 32 bits, and so does the column.
use mathlib.Core.Path.{◌≡◌}
use mathlib.Core.Bool.{true}
use lib.IntN.{pos, ◌+ℤ◌, ◌*ℤ◌}
use mir.Syntax.{w32}
use mir.Val.{SFits, to_z, of_z}
use mir.Facts.{to_z-of_z}
use Rattle.hexes.specs.Tiles.{within_limit}
use Rattle.hexes.specs.declared.Tile.{Tile}
use Rattle.hexes.proofs.Limit.{within_is, within_read}
use Rattle.conversions.specs.Doubled.{doubled_of}
use Rattle.conversions.proofs.DoubledLaws.{column_fits}
use Rattle.conversions.proofs.doubled.to_width.Goals as goal

module _ (t : Tile) (near : within_limit t ≡ true) where
  twice_fits : SFits w32 (pos 2 *ℤ to_z w32 (of_z w32 t.x))
  twice_fits =
      let l = within_is t near in
      rw (within_read t near).0 (column_fits t.x t.y l.0 l.1).0

  sum_fits : SFits w32 (to_z w32 (of_z w32 (pos 2 *ℤ to_z w32 (of_z w32 t.x))) +ℤ to_z w32 (of_z w32 t.y))
  sum_fits =
      let l = within_is t near in
      let r = within_read t near in
      rw (to_z-of_z twice_fits, r.0, r.1) (column_fits t.x t.y l.0 l.1).1

pub overflow_mul-result : goal.overflow_mul-result
overflow_mul-result c = twice_fits c.args.tile c.requires

pub overflow_add-result : goal.overflow_add-result
overflow_add-result c = sum_fits c.args.tile c.requires

pub returns : goal.returns
unfolding doubled_of
returns c =
    let t = c.args.tile in
    let r = within_read t c.requires in
    rw (to_z-of_z (sum_fits t c.requires), to_z-of_z (twice_fits t c.requires), r.0, r.1)
