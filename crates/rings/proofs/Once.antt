-- No tile stands twice in a ring or in a spiral, and a spiral's tiles are those at its ranges from the centre.
use mathlib.Core.Path.{sym, ◌∙◌}
use mathlib.Core.Logic.{◌↔◌}
use mathlib.Core.List.Memᴰ
use mathlib.Core.List.{[], ◌∷◌}
use Prim.Native.Nat.{ℕ, zero, suc, ◌+◌, ◌-◌, ◌≤◌, ◌<◌}
use native.Mathlib.Omega.{arith}
use Rattle.hexes.specs.Tiles.{distance_of}
use Rattle.hexes.specs.declared.Tile.{Tile}
use Rattle.runs.specs.Lists.{gather}
use Rattle.rings.specs.Rings.{ring, spiral}
use Rattle.runs.proofs.Gathered.{In, among, in_piece}
use Rattle.rings.proofs.Spots.{spot, side, ring_sides}
use Rattle.rings.proofs.AtDistance.{on_side, in_ring_distance, distance_in_ring}
use Rattle.runs.proofs.Distinct.{Once, once_one, once_gather}
use Rattle.rings.proofs.Apart.{spots_of_leg, spots_of_legs}

-- A leg, of whose tiles no two are the same.
tiles_apart : (c : Tile) (d sense n i : ℕ) (k l : ℕ) (t : Tile) → k < l → l < n → In t (spot c d sense n i k ∷ []) → In t (spot c d sense n i l ∷ []) → ⊥
tiles_apart c d sense n i k l t h m p q =
    let e = spots_of_leg c d sense n i k l (omega arith) m (sym (Memᴰ.eq_of_singleton p) ∙ Memᴰ.eq_of_singleton q) in
    omega arith

once_side : (c : Tile) (d sense n i : ℕ) → Once (side c d sense n i)
unfolding side
once_side c d sense n i = once_gather (λ k. spot c d sense n i k ∷ []) n (λ k h. once_one (spot c d sense n i k)) (tiles_apart c d sense n i)

-- Six legs, of which no two share a tile.
sides_apart : (c : Tile) (d sense n : ℕ) (i j : ℕ) (t : Tile) → i < j → j < 6 → In t (side c d sense n i) → In t (side c d sense n j) → ⊥
sides_apart c d sense n i j t h m p q =
    let a = on_side c d sense n t i p in
    let b = on_side c d sense n t j q in
    spots_of_legs c d sense n i j a.place b.place h m a.below b.below (sym a.here ∙ b.here)

once_sides : (c : Tile) (d sense n : ℕ) → Once (gather (side c d sense n) 6)
once_sides c d sense n = once_gather (side c d sense n) 6 (λ i h. once_side c d sense n i) (sides_apart c d sense n)

pub once_ring : (c : Tile) (d sense n : ℕ) → Once (ring c d sense n)
unfolding ring
once_ring c d sense zero = once_one c
once_ring c d sense (suc n) = rw (ring_sides c d sense n) (once_sides c d sense (suc n))

-- The spiral from one range to another has the tiles at these ranges.
module _ (c : Tile) (first last d sense : ℕ) where
  pub in_spiral_distance : (t : Tile) → In t (spiral c first last d sense) → (first ≤ distance_of c t) × (distance_of c t ≤ last)
  in_spiral_distance t m =
      let a = among (λ k. ring c d sense (first + k)) (last + 1 - first) t m in
      let e = in_ring_distance c d sense (first + a.piece) t a.inside in
      omega arith

  pub distance_in_spiral : (t : Tile) → (first ≤ distance_of c t) × (distance_of c t ≤ last) → In t (spiral c first last d sense)
  distance_in_spiral t h =
      let k = distance_of c t - first in
      in_piece (λ k. ring c d sense (first + k)) (last + 1 - first) k t (omega arith) (distance_in_ring c d sense (first + k) t (omega arith))

  pub in_spiral : (t : Tile) → In t (spiral c first last d sense) ↔ ((first ≤ distance_of c t) × (distance_of c t ≤ last))
  in_spiral t = (in_spiral_distance t, distance_in_spiral t)

  -- Rings of different ranges share no tile, because its distance would be both.
  rings_apart : (i j : ℕ) (t : Tile) → i < j → j < last + 1 - first → In t (ring c d sense (first + i)) → In t (ring c d sense (first + j)) → ⊥
  rings_apart i j t h m p q = omega (arith, in_ring_distance c d sense (first + i) t p, in_ring_distance c d sense (first + j) t q)

  pub once_spiral : Once (spiral c first last d sense)
  once_spiral = once_gather (λ k. ring c d sense (first + k)) (last + 1 - first) (λ k h. once_ring c d sense (first + k)) rings_apart

-- From range 0 on it has every tile up to the last range, and by `once_spiral` each of them once.
pub in_spiral_from_centre : (c : Tile) (r d sense : ℕ) (t : Tile) → In t (spiral c 0 r d sense) ↔ (distance_of c t ≤ r)
in_spiral_from_centre c r d sense t = ((λ m. (in_spiral_distance c 0 r d sense t m).1), (λ h. distance_in_spiral c 0 r d sense t (omega arith)))
