-- The tiles of a ring are those at its range from the centre, from every direction and in both senses.
use mathlib.Core.Path.{◌≡◌, sym, ap, ◌∙◌}
use mathlib.Core.Logic.{◌↔◌}
use mathlib.Core.List.Memᴰ
use mathlib.Core.List.{[], ◌∷◌}
use Prim.Native.Nat.{ℕ, zero, suc, ◌+◌, ◌*◌, ◌-◌, ◌%◌, ◌<◌}
use native.Mathlib.Omega.{arith}
use lib.IntN.{◌-ℤ◌}
use Rattle.hexes.specs.Tiles.{distance_of}
use Rattle.hexes.specs.declared.Tile.{Tile}
use Rattle.hexes.proofs.Metric.{zero_same, same_zero}
use Rattle.runs.specs.Lists.{gather}
use Rattle.rings.specs.Rings.{ring}
use Rattle.runs.proofs.Gathered.{In, among, in_piece}
use Rattle.rings.proofs.Offsets.{offset, offset_same, offset_round, on_rim}
use Rattle.rings.proofs.Corners.{shifted, shifted_whole}
use Rattle.rings.proofs.Spots.{bearing, past, spot, side, ring_sides, spot_distance}

-- That a tile is one of leg i, with its place there.
pub record OnSide (c : Tile) (d sense n i : ℕ) (t : Tile) : Type 0 where
  pub place : ℕ
  pub below : place < n
  pub here : t ≡ spot c d sense n i place

-- That a tile is one of some leg.
pub record OnRing (c : Tile) (d sense n : ℕ) (t : Tile) : Type 0 where
  pub leg : ℕ
  pub below : leg < 6
  pub side_of : OnSide c d sense n leg t

-- What stands in a leg, or in a ring, has such a place, and what has one stands there.
module _ (c : Tile) (d sense n : ℕ) (t : Tile) where
  pub on_side : (i : ℕ) → In t (side c d sense n i) → OnSide c d sense n i t
  unfolding side
  on_side i m = let a = among (λ k. spot c d sense n i k ∷ []) n t m in record { place = a.piece; below = a.below; here = Memᴰ.eq_of_singleton a.inside }

  in_side : (i : ℕ) → OnSide c d sense n i t → In t (side c d sense n i)
  unfolding side
  in_side i s = in_piece (λ k. spot c d sense n i k ∷ []) n s.place t s.below (Memᴰ.head s.here)

  on_ring : In t (gather (side c d sense n) 6) → OnRing c d sense n t
  on_ring m = let a = among (side c d sense n) 6 t m in record { leg = a.piece; below = a.below; side_of = on_side a.piece a.inside }

  in_ring : OnRing c d sense n t → In t (gather (side c d sense n) 6)
  in_ring s = in_piece (side c d sense n) 6 s.leg t s.below (in_side s.leg s.side_of)

-- Every offset of the range is at some place: its leg is found modulo 6, and in sense 1 the first offset of a side is the last of the side before.
seated : (c : Tile) (d sense n e q : ℕ) → q < n → OnRing c d sense n (shifted c (offset n e q))
unfolding spot bearing past
seated c d zero n e q h =
    let i = (e + 5 * d) % 6 in
    record { leg = i; below = omega arith; side_of = record { place = q; below = h; here = ap (shifted c) (offset_same n e (d + i) q (omega arith)) } }
seated c d (suc sense) n e zero h =
    let i = (d + 5 * e) % 6 in
    let last : n - 0 ≡ n = omega arith in
    let same = offset_same n e (d + 5 * i + 5 + 1) 0 (omega arith) ∙ sym (offset_round n (d + 5 * i + 5)) in
    record { leg = i; below = omega arith; side_of = record { place = 0; below = h; here = rw last (ap (shifted c) same) } }
seated c d (suc sense) n e (suc q) h =
    let i = (d + 5 + 5 * e) % 6 in
    let other : n - (n - suc q) ≡ suc q = omega arith in
    let same = offset_same n e (d + 5 * i + 5) (suc q) (omega arith) in
    record { leg = i; below = omega arith; side_of = record { place = n - suc q; below = omega arith; here = rw other (ap (shifted c) same) } }

-- So is every tile at that distance.
at_place : (c : Tile) (d sense n : ℕ) (t : Tile) → distance_of c t ≡ suc n → OnRing c d sense (suc n) t
unfolding distance_of
at_place c d sense n t e =
    let r = on_rim (suc n) (t.x -ℤ c.x) (t.y -ℤ c.y) (omega arith) e in
    rw (shifted_whole c t ∙ ap (shifted c) r.here) (seated c d sense (suc n) r.turns r.past r.below)

-- The tiles of the ring of range n are those at distance n from the centre.
pub in_ring_distance : (c : Tile) (d sense n : ℕ) (t : Tile) → In t (ring c d sense n) → distance_of c t ≡ n
unfolding ring
in_ring_distance c d sense zero t m = ap (distance_of c) (Memᴰ.eq_of_singleton m) ∙ same_zero c
in_ring_distance c d sense (suc n) t m =
    let r = on_ring c d sense (suc n) t (rw (ring_sides c d sense n) at m) in
    let s = r.side_of in
    ap (distance_of c) s.here ∙ spot_distance c d sense (suc n) r.leg s.place s.below

pub distance_in_ring : (c : Tile) (d sense n : ℕ) (t : Tile) → distance_of c t ≡ n → In t (ring c d sense n)
unfolding ring
distance_in_ring c d sense zero t e = Memᴰ.head (sym (zero_same c t e))
distance_in_ring c d sense (suc n) t e = rw (ring_sides c d sense n) (in_ring c d sense (suc n) t (at_place c d sense n t e))

pub at_distance : (c : Tile) (d sense n : ℕ) (t : Tile) → In t (ring c d sense n) ↔ (distance_of c t ≡ n)
at_distance c d sense n t = (in_ring_distance c d sense n t, distance_in_ring c d sense n t)
