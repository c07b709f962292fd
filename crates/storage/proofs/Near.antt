-- Neighbours for those who reckon with indices alone: `near_in` is what is told of a neighbour, two tiles of a map are at distance 1 exactly if one is near the other, and the opposite
-- direction leads back.
use mathlib.Core.Path.{◌≡◌, refl, sym, ap, ◌∙◌, subst}
use mathlib.Core.Bool.{true}
use mathlib.Core.List.{List}
use Prim.Native.Nat.{ℕ, ◌+◌, ◌%◌, ◌<◌, ◌≤◌}
use native.Mathlib.Omega.{arith}
use lib.ListN.{get_or}
use Rattle.std.specs.Prelude.{Option, None}
use Rattle.hexes.specs.Answers.{Told, accepted, refused_tile}
use Rattle.hexes.specs.Limits.{radius_limit}
use Rattle.hexes.specs.Tiles.{neighbor_of, distance_of}
use Rattle.hexes.specs.declared.Tile.{Tile}
use Rattle.hexes.proofs.Beside.{one_apart, six_neighbors}
use Rattle.hexes.proofs.Metric.{neighbor_at_one}
use Rattle.hexes.proofs.Tells.{One}
use Rattle.hexes.proofs.Turning.{opposite_leads_back}
use Rattle.storage.specs.Hexmod.{index, index_in, index_of, to_hexmod, FromHexmod}
use Rattle.storage.specs.Leaves.{tile_at_index, beside_at, number_or_none, beside_in, near_in}
use Rattle.storage.specs.Maps.{map_refusal, of_map, area_of}
use Rattle.storage.specs.Neighbors.{SixNeighbors}
use Rattle.storage.specs.declared.Index.{Index}
use Rattle.storage.specs.declared.Map.{Map}
use Rattle.storage.proofs.Back.{index_below, one_index, tile_of_map, tile_has_index, the_tile_of}
use Rattle.storage.proofs.Besides.{number_beside, beside_on, some_on}
use Rattle.storage.proofs.Ending.{OneHas, from_fine}
use Rattle.storage.proofs.Maps.{area_small}
use Rattle.storage.proofs.Neighbors.{one_told, neighbor_found, entry_of_beside}

-- A tile is found back from its index.
module _ (map : Map) where
  pub same_index : (a b : Tile) → of_map map a ≡ true → of_map map b ≡ true → index_in map a ≡ index_in map b → a ≡ b
  unfolding OneHas
  same_index a b p q e = one_index map a b p q (ap index e)

  pub tile_of_index : (a : Tile) → of_map map a ≡ true → tile_at_index map (index_in map a) ≡ a
  tile_of_index a p = let h = index_below map a in same_index (tile_at_index map (index_in map a)) a (tile_of_map map (index_in map a) h) p (tile_has_index map (index_in map a) h)

  pub near_of : (a : Tile) (d : ℕ) → of_map map a ≡ true → near_in map (index_in map a) d ≡ beside_in map a d
  unfolding near_in
  near_of a d p = ap (λ (t : Tile). beside_in map t d) (tile_of_index a p)

  -- A neighbour that is of the map, by index.
  pub near_on : (a : Tile) (d : ℕ) → of_map map a ≡ true → of_map map (neighbor_of a d) ≡ true → near_in map (index_in map a) d ≡ index_in map (neighbor_of a d)
  near_on a d p q = near_of a d p ∙ sym (beside_on map a d q)

module _ (map : Map) (small : map.radius ≤ radius_limit) where
  -- What is near, below the area, is a tile of the map.
  pub near_tile : (i d : ℕ) → i < area_of map.radius → near_in map i d < area_of map.radius → of_map map (neighbor_of (tile_at_index map i) d) ≡ true
  unfolding near_in
  near_tile i d h l = some_on map (tile_at_index map i) d small (λ e. omega (arith, area_small map.radius small))

  pub near_apart : (a b : Tile) (d : ℕ) → of_map map a ≡ true → of_map map b ≡ true → near_in map (index_in map a) d ≡ index_in map b → distance_of a b ≡ 1
  near_apart a b d p q e =
      let below : near_in map (index_in map a) d < area_of map.radius = omega (arith, index_below map b) in
      let on : of_map map (neighbor_of a d) ≡ true = subst (λ (t : Tile). of_map map (neighbor_of t d) ≡ true) (tile_of_index map a p) (near_tile (index_in map a) d (index_below map a) below) in
      ap (distance_of a) (sym (same_index map (neighbor_of a d) b on q (sym (near_on map a d p on) ∙ e))) ∙ neighbor_at_one a d

  pub apart_near : (a b : Tile) → of_map map a ≡ true → of_map map b ≡ true → distance_of a b ≡ 1 → (d : ℕ) × ((d < 6) × (near_in map (index_in map a) d ≡ index_in map b))
  apart_near a b p q e =
      let l = one_apart a b e in
      (l.d, (l.low, near_on map a l.d p (ap (of_map map) l.to ∙ q) ∙ ap (index_in map) l.to))

  -- The opposite direction leads back.
  pub near_back : (i d : ℕ) → i < area_of map.radius → near_in map i d < area_of map.radius → near_in map (near_in map i d) ((d + 3) % 6) ≡ i
  near_back i d h l =
      let a = tile_at_index map i in
      let has = tile_has_index map i h in
      let of = tile_of_map map i h in
      let on = near_tile i d h l in
      let back : neighbor_of (neighbor_of a d) ((d + 3) % 6) ≡ a = six_neighbors (neighbor_of a d) (d + 3) ∙ opposite_leads_back a d in
      ap (λ (k : ℕ). near_in map k ((d + 3) % 6)) (ap (λ (k : ℕ). near_in map k d) (sym has) ∙ near_on map a d of on)
      ∙ near_on map (neighbor_of a d) ((d + 3) % 6) on (ap (of_map map) back ∙ of)
      ∙ ap (index_in map) back
      ∙ has

-- The way back from an index below the area tells the tile of its strip.
module _ (map : Map) (i : ℕ) (z : map_refusal map ≡ 0) (h : i < area_of map.radius) where
  goes_back : FromHexmod map (index i) (accepted (tile_at_index map i))
  goes_back = from_fine map (index_of map) (index i) z (the_tile_of map (index i) h (tile_at_index map i) refl)

  pub found_tile : (t : Tile) → FromHexmod map (index i) (accepted t) → t ≡ tile_at_index map i
  unfolding One
  found_tile t p = ap (λ (v : Told Tile). v.value) (one_told map (index i) _ _ p goes_back)

  pub never_lost : (n : ℕ) → 0 < n → FromHexmod map (index i) (refused_tile n) → ⊥
  unfolding One
  never_lost n l p = let k : n ≡ 0 = ap (λ (v : Told Tile). v.number) (one_told map (index i) _ _ p goes_back) in omega arith

-- The row of six has what stands beside the tile, and, read as numbers, what is near.
module _ (map : Map) (i : ℕ) (entries : List (Option Index)) (z : map_refusal map ≡ 0) (h : i < area_of map.radius) (s : SixNeighbors map (index i) entries) (d : ℕ) (l : d < 6) where
  entry_beside : get_or entries d None ≡ beside_at map (tile_at_index map i) d
  entry_beside =
      let t = tile_at_index map i in
      let k = neighbor_found map (index i) d t (goes_back map i z h) (to_hexmod map (neighbor_of t d)) refl in
      s.each d l (to_hexmod map (neighbor_of t d)) k ∙ sym (entry_of_beside map t d z)

  pub entries_near : number_or_none (get_or entries d None) ≡ near_in map i d
  unfolding near_in
  entries_near = ap number_or_none entry_beside ∙ number_beside map (tile_at_index map i) d
