-- Laws of what stands beside a tile of a map: a step moves an index by the same number wherever it is made, and by at most one turn where it stays on the map.
use mathlib.Core.Path.{◌≡◌, refl, sym, ap, ◌∙◌}
use mathlib.Core.Bool.{Bool, true, false, cond}
use Rattle.std.specs.Prelude.{None, Some}
use Prim.Native.Nat.{ℕ, zero, suc, ◌*◌, ◌^◌, ◌<◌, ◌≤◌}
use native.Mathlib.Nat.{mul-le-mul_left}
use native.Mathlib.Omega.{arith}
use lib.IntN.{ℤ, pos, nat_abs, ◌+ℤ◌, ◌-ℤ◌, ◌*ℤ◌}
use borrow.Author.Tests.{le-leb, leb-true}
use Rattle.whole.specs.Euclid.{quotient, remainder}
use Rattle.whole.proofs.Differences.{by3, by6, linear, d_mul}
use Rattle.whole.proofs.Euclid.{euclid, remainder_turn}
use Rattle.whole.proofs.Kit.{dif_b}
use Rattle.hexes.specs.Directions.{step_of}
use Rattle.hexes.specs.Limits.{coordinate_limit, radius_limit}
use Rattle.hexes.specs.Tiles.{neighbor_of, distance_of}
use Rattle.hexes.specs.declared.Tile.{Tile}
use Rattle.hexes.proofs.Metric.{triangle, zero_same, same_zero, neighbor_at_one, step_small}
use Rattle.storage.specs.Hexmod.{shift_of, index_in, index_of}
use Rattle.storage.specs.Leaves.{Inside, beside_at, no_index, number_or_none, beside_in, stride_of}
use Rattle.storage.specs.Maps.{of_map, area_of}
use Rattle.storage.specs.declared.Map.{Map}
use Rattle.storage.specs.declared.map_tile.MapTile.{MapTile}
use Rattle.storage.proofs.Back.{index_below}
use Rattle.storage.proofs.Maps.{area_small, disc_of}
use Rattle.storage.proofs.Reckoned.{times, sum_size}

-- (y + v - c) + s (x + u - b) is i + (v + s u) and whole turns, if (y - c) + s (x - b) is i and whole turns.
moved : (a s i : ℕ) (x y q u v b c : ℤ) → pos a *ℤ q +ℤ pos i ≡ (y -ℤ c) +ℤ pos s *ℤ (x -ℤ b)
    → (y +ℤ v -ℤ c) +ℤ pos s *ℤ (x +ℤ u -ℤ b) ≡ (pos i +ℤ (v +ℤ pos s *ℤ u)) +ℤ pos a *ℤ q
moved a s i x y q u v b c e =
    regroup s (x -ℤ b) (y -ℤ c) u v (x +ℤ u -ℤ b) (y +ℤ v -ℤ c) (shift_in x u b) (shift_in y v c)
    ∙ ap (λ (z : ℤ). z +ℤ (v +ℤ pos s *ℤ u)) (sym e)
    ∙ last (pos a *ℤ q) (pos i) (v +ℤ pos s *ℤ u)
  where
    shift_in : (x u b : ℤ) → x +ℤ u -ℤ b ≡ (x -ℤ b) +ℤ u
    shift_in = by3 _ (simp linear (omega arith))

    regroup : (s : ℕ) (x y u v x' y' : ℤ) → x' ≡ x +ℤ u → y' ≡ y +ℤ v → y' +ℤ pos s *ℤ x' ≡ (y +ℤ pos s *ℤ x) +ℤ (v +ℤ pos s *ℤ u)
    regroup s = by6 _ (simp (linear, d_mul) (λ a b c d e f g h i j k l p q. omega (arith, ap (λ (n : ℕ). s * n) p)))

    last : (p i w : ℤ) → p +ℤ i +ℤ w ≡ (i +ℤ w) +ℤ p
    last = by3 _ (simp linear (omega arith))

module _ (map : Map) (t : Tile) (d : ℕ) where
  -- The index of a neighbour is the index moved by the direction's stride.
  pub index_moved : index_in map (neighbor_of t d) ≡ remainder (pos (index_in map t) +ℤ stride_of map.radius d) (area_of map.radius)
  unfolding index_in neighbor_of stride_of
  index_moved =
      let a = area_of map.radius in
      let z = (t.y -ℤ map.centre.y) +ℤ pos (shift_of map.radius) *ℤ (t.x -ℤ map.centre.x) in
      ap (λ (v : ℤ). remainder v a)
      (moved a (shift_of map.radius) (remainder z a) t.x t.y (quotient z a) (step_of d).0 (step_of d).1 map.centre.x map.centre.y (euclid z a (omega arith)))
      ∙ remainder_turn _ a (quotient z a) (omega arith)

  -- A tile and its neighbour are not both the centre.
  pub not_alone : of_map map t ≡ true → of_map map (neighbor_of t d) ≡ true → 0 < map.radius
  unfolding of_map
  not_alone p q = go map.radius (leb-true _ _ p) (leb-true _ _ q)
    where
      go : (r : ℕ) → distance_of map.centre t ≤ r → distance_of map.centre (neighbor_of t d) ≤ r → 0 < r
      go zero h k =
          let e : t ≡ neighbor_of t d = sym (zero_same map.centre t (omega arith)) ∙ zero_same map.centre (neighbor_of t d) (omega arith) in
          absurd (omega (arith, neighbor_at_one t d, ap (distance_of t) (sym e), same_zero t))
      go (suc r) h k = omega arith

-- So the stride is at most one turn.
pub stride_small : (r d : ℕ) → 0 < r → nat_abs (stride_of r d) ≤ area_of r
unfolding stride_of
stride_small r d h =
    let s = step_of d in
    let small = step_small d in
    omega (arith, sum_size 1 (shift_of r * 1) s.1 (pos (shift_of r) *ℤ s.0) small.1 (times (shift_of r) 1 s.0 small.0), mul-le-mul_left r h)

-- A tile of a map is within reach of the coordinate limit, so 32 bits hold its neighbour.
pub next_near : (h : MapTile) (d : ℕ) → (nat_abs (neighbor_of h.tile d).x < 2 ^ 31) × (nat_abs (neighbor_of h.tile d).y < 2 ^ 31)
unfolding neighbor_of
next_near h d =
    let f = h.fine in
    let disc = disc_of f.map h.tile h.of in
    let s = step_small d in
    (go h.tile.x f.map.centre.x (step_of d).0 f.near_x (omega (arith, disc.disc_x, f.small)) s.0, go h.tile.y f.map.centre.y (step_of d).1 f.near_y (omega (arith, disc.disc_y, f.small)) s.1)
  where
    go : (z c s : ℤ) → nat_abs c ≤ coordinate_limit → nat_abs (z -ℤ c) ≤ radius_limit → nat_abs s ≤ 1 → nat_abs (z +ℤ s) < 2 ^ 31
    go = by3 _ (simp dif_b (omega arith))

-- A tile that does not lie on the rim has all its neighbours on the map.
pub inside_stays : (map : Map) (t : Tile) (d : ℕ) → Inside map t → true ≡ of_map map (neighbor_of t d)
unfolding of_map
inside_stays map t d h = sym (le-leb (distance_of map.centre (neighbor_of t d)) map.radius (omega (arith, triangle map.centre t (neighbor_of t d), neighbor_at_one t d)))

-- What an entry is, by whether the neighbour is of the map.
module _ (map : Map) (t : Tile) (d : ℕ) where
  pub at_off : of_map map (neighbor_of t d) ≡ false → None ≡ beside_at map t d
  unfolding beside_at
  at_off e = rw e

  pub at_on : of_map map (neighbor_of t d) ≡ true → Some (index_of map (neighbor_of t d)) ≡ beside_at map t d
  unfolding beside_at
  at_on e = rw e

  -- Its number is the one that the theories reckon with.
  pub number_beside : number_or_none (beside_at map t d) ≡ beside_in map t d
  unfolding beside_at beside_in
  number_beside = go (of_map map (neighbor_of t d))
    where
      go : (b : Bool) → number_or_none (cond b (Some (index_of map (neighbor_of t d))) None) ≡ cond b (index_in map (neighbor_of t d)) no_index
      go true = refl
      go false = refl

  pub beside_off : of_map map (neighbor_of t d) ≡ false → no_index ≡ beside_in map t d
  unfolding beside_in
  beside_off e = rw e

  pub beside_on : of_map map (neighbor_of t d) ≡ true → index_in map (neighbor_of t d) ≡ beside_in map t d
  unfolding beside_in
  beside_on e = rw e

-- An entry tells which: no tile of the map has the index that stands for none.
module _ (map : Map) (t : Tile) (d : ℕ) (small : map.radius ≤ radius_limit) where
  pub below_none : index_in map (neighbor_of t d) < no_index
  below_none = omega (arith, area_small map.radius small, index_below map (neighbor_of t d))

  found_test : (b : Bool) → of_map map (neighbor_of t d) ≡ b → (beside_in map t d ≡ no_index → ⊥) → of_map map (neighbor_of t d) ≡ true
  found_test true e h = e
  found_test false e h = absurd (h (sym (beside_off map t d e)))

  pub some_on : (beside_in map t d ≡ no_index → ⊥) → of_map map (neighbor_of t d) ≡ true
  some_on = found_test (of_map map (neighbor_of t d)) refl
