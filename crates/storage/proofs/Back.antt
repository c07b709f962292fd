-- The way back in tiles: a tile of a map is the only one with its index, and every number below the area is the index of the tile that the code answers.
use mathlib.Core.Path.{◌≡◌, ap, ap₂, ◌∙◌}
use mathlib.Core.Bool.{true}
use Prim.Native.Nat.{ℕ, ◌<◌, ◌≤◌}
use native.Mathlib.Omega.{arith}
use lib.IntN.{ℤ, ◌+ℤ◌, ◌-ℤ◌}
use Rattle.whole.proofs.Differences.{by2, by3, linear}
use Rattle.hexes.specs.Answers.{accepted, refused_tile}
use Rattle.hexes.specs.Refusals.{not_of_map}
use Rattle.hexes.specs.Tiles.{tile}
use Rattle.hexes.specs.declared.Tile.{Tile}
use Rattle.storage.specs.Maps.{of_map, area_of, TheTile, of, none}
use Rattle.storage.specs.Hexmod.{index_in, index, index_of}
use Rattle.storage.specs.Leaves.{tile_at_index}
use Rattle.storage.specs.declared.Index.{Index}
use Rattle.storage.specs.declared.Map.{Map}
use Rattle.storage.proofs.Ending.{OneHas}
use Rattle.storage.proofs.Maps.{disc_of, of_disc}
use Rattle.storage.proofs.Strips.{value, value_below, one_tile, has_tile, back_x, back_y}

gone_back : (c x : ℤ) → (c +ℤ x) -ℤ c ≡ x
gone_back = by2 _ (simp linear (omega arith))

same_from : (c x y : ℤ) → x -ℤ c ≡ y -ℤ c → x ≡ y
same_from = by3 _ (simp linear (omega arith))

module _ (map : Map) where
  pub index_below : (t : Tile) → index_in map t < area_of map.radius
  unfolding index_in
  index_below t = value_below map.radius (t.x -ℤ map.centre.x) (t.y -ℤ map.centre.y)

  pub one_index : OneHas map (index_of map)
  unfolding OneHas index_in
  one_index s t p q e =
      let o = one_tile map.radius _ _ _ _ (disc_of map s p) (disc_of map t q) (ap (λ (v : Index). v.0) e) in
      ap₂ tile (same_from map.centre.x s.x t.x o.0) (same_from map.centre.y s.y t.y o.1)

  pub tile_of_map : (i : ℕ) → i < area_of map.radius → of_map map (tile_at_index map i) ≡ true
  tile_of_map i h =
      of_disc map (tile_at_index map i)
      (rw (gone_back map.centre.x (back_x map.radius i), gone_back map.centre.y (back_y map.radius i)) (has_tile map.radius i h).0)

  pub tile_has_index : (i : ℕ) → i < area_of map.radius → index_in map (tile_at_index map i) ≡ i
  unfolding index_in
  tile_has_index i h =
      ap₂ (value map.radius) (gone_back map.centre.x (back_x map.radius i)) (gone_back map.centre.y (back_y map.radius i)) ∙ (has_tile map.radius i h).1

  -- What the way back finds and what it does not.
  pub the_tile_of : (i : Index) → i.0 < area_of map.radius → (t : Tile) → t ≡ tile_at_index map i.0 → TheTile map (index_of map) i (accepted t)
  the_tile_of i h t e = of t (ap (of_map map) e ∙ tile_of_map i.0 h) (ap index (ap (index_in map) e ∙ tile_has_index i.0 h))

  pub no_tile_of : (i : Index) → area_of map.radius ≤ i.0 → TheTile map (index_of map) i (refused_tile not_of_map)
  no_tile_of i h = none (λ t p e. let k = ap (λ (v : Index). v.0) e in absurd (omega (arith, index_below t)))
