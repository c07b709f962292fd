-- Laws of maps: what is known of a map that is fine or that was judged, how many tiles it has, and which tiles are of it.
use mathlib.Core.Path.{◌≡◌, sym, ap, ◌∙◌}
use mathlib.Core.Bool.{true}
use Prim.Native.Nat.{ℕ, ◌+◌, ◌*◌, ◌≤◌}
use native.Mathlib.Nat.{mul-le-mul_right}
use native.Mathlib.Omega.{arith}
use borrow.Author.Tests.{eq-eqb, ne_eqb, le-leb, leb-true}
use lib.Dec.{leb}
use lib.IntN.{nat_abs, ◌-ℤ◌}
use Rattle.hexes.specs.Limits.{coordinate_limit, radius_limit}
use Rattle.hexes.specs.Tiles.{distance_of, span, within_limit}
use Rattle.hexes.specs.declared.Tile.{Tile}
use Rattle.hexes.proofs.Chains.{passed}
use Rattle.hexes.proofs.Limit.{within, within_is}
use Rattle.storage.specs.Maps.{map_refusal, of_map, area_of, tiles_of}
use Rattle.storage.specs.declared.Map.{Map}
use Rattle.storage.specs.declared.fine.FineMap.{FineMap}
use Rattle.storage.proofs.Strips.{Disc}

-- What holds of a map that is fine.
pub record Fine (map : Map) : Type 0 where
  pub near_x : nat_abs map.centre.x ≤ coordinate_limit
  pub near_y : nat_abs map.centre.y ≤ coordinate_limit
  pub small : map.radius ≤ radius_limit

pub fine : (map : Map) → map_refusal map ≡ 0 → Fine map
unfolding map_refusal
fine map e =
    let a = passed (within_limit map.centre) 0 _ e in
    let b = passed (leb map.radius radius_limit) 1 0 a.1 in
    let l = within_is map.centre a.0 in
    record { near_x = l.0; near_y = l.1; small = leb-true _ _ b.0 }

-- A map that was judged is fine.
pub judged_fine : (f : FineMap) → map_refusal f.map ≡ 0
unfolding map_refusal
judged_fine f = rw (within f.map.centre f.near_x f.near_y, le-leb f.map.radius radius_limit f.small)

pub fine_of : (f : FineMap) (map : Map) → f.map ≡ map → map_refusal map ≡ 0
fine_of f map e = ap map_refusal (sym e) ∙ judged_fine f

-- How many tiles a map has, by whether it is fine.
pub tiles_refused : (map : Map) → (map_refusal map ≡ 0 → ⊥) → 0 ≡ tiles_of map
unfolding tiles_of
tiles_refused map h = rw (ne_eqb (map_refusal map) 0 h)

pub tiles_fine : (map : Map) → map_refusal map ≡ 0 → tiles_of map ≡ area_of map.radius
unfolding tiles_of
tiles_fine map e = rw (eq-eqb (map_refusal map) 0 e)

pub area_small : (r : ℕ) → r ≤ radius_limit → 3 * r * (r + 1) ≤ 3 * radius_limit * (radius_limit + 1)
area_small r h = omega (arith, mul-le-mul_right r h)

-- The tiles of a map are the disc round its centre.
module _ (map : Map) (t : Tile) where
  pub disc_of : of_map map t ≡ true → Disc map.radius (t.x -ℤ map.centre.x) (t.y -ℤ map.centre.y)
  unfolding of_map distance_of span
  disc_of e = let h = leb-true (distance_of map.centre t) map.radius e in record { disc_x = omega arith; disc_y = omega arith; disc_sum = omega arith }

  pub of_disc : Disc map.radius (t.x -ℤ map.centre.x) (t.y -ℤ map.centre.y) → of_map map t ≡ true
  unfolding of_map distance_of span
  of_disc d = le-leb (distance_of map.centre t) map.radius (omega (arith, d.disc_x, d.disc_y, d.disc_sum))
