-- A pointy grid mirrors a flat one, and doubled height mirrors doubled width: the two coordinates are exchanged on both sides. What is told of one grid is told, exchanged, of its mirror.
use mathlib.Core.Path.{◌≡◌, refl, sym, ap, ◌∙◌}
use mathlib.Core.Bool.{Bool, true, ◌&&◌}
use Prim.Native.Nat.{ℕ}
use lib.Dec.{leb}
use lib.IntN.{nat_abs}
use Rattle.std.proofs.Math.Bool.{and-true, and_comm}
use Rattle.hexes.specs.Answers.{Told, accepted, refused_tile}
use Rattle.hexes.specs.Limits.{coordinate_limit}
use Rattle.hexes.specs.Tiles.{within_limit}
use Rattle.hexes.specs.declared.Tile.{Tile}
use Rattle.conversions.specs.Doubled.{doubled_of}
use Rattle.conversions.specs.Grid.{known, TheTile, FromGrid}
use Rattle.conversions.specs.Leaves.{exchanged_tile, exchanged_pair, tile_by, pair_by, axes_of}
use Rattle.conversions.specs.Offset.{offset_of}
use Rattle.conversions.specs.declared.GridPair.{GridPair}
use Rattle.conversions.specs.declared.exchanged.Axes.{Axes}
use Rattle.conversions.proofs.GridLaws.{known_two}

unfoldable pub Mirrored : (Tile → GridPair) → (Tile → GridPair) → Type 0
Mirrored convert mirror = (t : Tile) → mirror t ≡ exchanged_pair (convert (exchanged_tile t))

pub pointy_mirrors : (mode : ℕ) → Mirrored (offset_of mode 0) (offset_of mode 1)
unfolding Mirrored offset_of
pointy_mirrors mode t = refl

pub height_mirrors : Mirrored (doubled_of 0) (doubled_of 1)
unfolding Mirrored doubled_of
height_mirrors t = refl

-- The limit is the same for both coordinates.
limit_exchanged : (t : Tile) → within_limit (exchanged_tile t) ≡ within_limit t
unfolding within_limit
limit_exchanged t = and_comm (leb (nat_abs t.y) coordinate_limit) (leb (nat_abs t.x) coordinate_limit)

pub limit_by : (axes : Axes) (t : Tile) → within_limit (tile_by axes t) ≡ within_limit t
limit_by Axes.Kept t = refl
limit_by Axes.Exchanged t = limit_exchanged t

-- The way back.
told_by : Axes → Told Tile → Told Tile
told_by axes told = record { number = told.number; value = tile_by axes told.value }

refused_by : (axes : Axes) (n : ℕ) → told_by axes (refused_tile n) ≡ refused_tile n
unfolding told_by
refused_by Axes.Kept n = refl
refused_by Axes.Exchanged n = refl

module _ (convert mirror : Tile → GridPair) (m : Mirrored convert mirror) where
  the_tile_mirror : (asked : GridPair) (told : Told Tile) → TheTile convert (exchanged_pair asked) told → TheTile mirror asked (told_by Axes.Exchanged told)
  unfolding Mirrored told_by
  the_tile_mirror asked told (TheTile.within t e w) = TheTile.within (exchanged_tile t) (m (exchanged_tile t) ∙ ap exchanged_pair e) (limit_exchanged t ∙ w)
  the_tile_mirror asked told (TheTile.beyond t e w) = TheTile.beyond (exchanged_tile t) (m (exchanged_tile t) ∙ ap exchanged_pair e) (limit_exchanged t ∙ w)
  the_tile_mirror asked told (TheTile.none n) = TheTile.none (λ t e. n (exchanged_tile t) (ap exchanged_pair (sym (m t) ∙ e)))

  from_mirror : (chosen : Bool) (asked : GridPair) (told : Told Tile) → FromGrid chosen convert (exchanged_pair asked) told → FromGrid chosen mirror asked (told_by Axes.Exchanged told)
  unfolding told_by
  from_mirror chosen asked told h =
      record { known_number_told = λ k. the_tile_mirror asked told (h.known_number_told k); unknown_number_told = λ k. ap (told_by Axes.Exchanged) (h.unknown_number_told k) }

-- Two grids by a number: 0 converts as it is, and 1 mirrors it. So a tile and a pair by the axes that the number chooses are converted as 0 converts.
module _ (grid : ℕ → Tile → GridPair) (mirrors : Mirrored (grid 0) (grid 1)) where
  there_by : (number : ℕ) → known number ≡ true → (t : Tile) → pair_by (axes_of number) (grid 0 (tile_by (axes_of number) t)) ≡ grid number t
  unfolding Mirrored
  there_by = known_two (λ n. (t : Tile) → pair_by (axes_of n) (grid 0 (tile_by (axes_of n) t)) ≡ grid n t) (λ t. refl) (λ t. sym (mirrors t))

  back_by : (chosen : Bool) (asked : GridPair) (told : Told Tile) (number : ℕ) → known number ≡ true → FromGrid chosen (grid 0) (pair_by (axes_of number) asked) told → FromGrid chosen (grid number) asked (told_by (axes_of number) told)
  unfolding told_by
  back_by chosen asked told =
      known_two (λ n. FromGrid chosen (grid 0) (pair_by (axes_of n) asked) told → FromGrid chosen (grid n) asked (told_by (axes_of n) told)) (λ h. h) (from_mirror (grid 0) (grid 1) mirrors chosen asked told)

  module _ (number : ℕ) {axes : Axes} (is : (known number ≡ true) × (axes ≡ axes_of number)) where
    -- As the code has it: u is the tile by the axes, p the pair that it converts to, and q that pair by the axes.
    pub there_is : (t : Tile) {u : Tile} {p q : GridPair} → u ≡ tile_by axes t → p ≡ grid 0 u → q ≡ pair_by axes p → q ≡ grid number t
    there_is t e f g = rw (g, f, e, is.1) (there_by number is.0 t)

    -- As the code has it: u is the pair by the axes, and what is told of it is told by the axes.
    module _ (chosen : Bool) (asked : GridPair) {u : GridPair} (e : u ≡ pair_by axes asked) where
      back_is : (told : Told Tile) → FromGrid chosen (grid 0) u told → FromGrid (chosen && known number) (grid number) asked (told_by axes told)
      back_is told h = rw (is.0, and-true chosen, is.1) (back_by chosen asked told number is.0 (rw (e, is.1) at h))

      pub back_found : {t v : Tile} → FromGrid chosen (grid 0) u (accepted t) → v ≡ tile_by axes t → FromGrid (chosen && known number) (grid number) asked (accepted v)
      unfolding told_by
      back_found {t} h f = rw f (back_is (accepted t) h)

      pub back_refused : (n : ℕ) → FromGrid chosen (grid 0) u (refused_tile n) → FromGrid (chosen && known number) (grid number) asked (refused_tile n)
      back_refused n h = rw (refused_by axes n) at (back_is (refused_tile n) h)
