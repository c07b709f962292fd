-- How many tiles each list has.
use mathlib.Core.Path.{◌≡◌, refl, ap, ap₂, ◌∙◌}
use mathlib.Core.List.{List, [], ◌∷◌}
use Prim.Native.Nat.{ℕ, zero, suc, ◌+◌, ◌*◌, ◌-◌, ◌/◌}
use native.Mathlib.Omega.{arith}
use lib.ListN.{length, length-append}
use Rattle.hexes.specs.declared.Tile.{Tile}
use Rattle.runs.specs.Lists.{gather, total}
use Rattle.rings.specs.Counts.{ring_count, wedge_count}
use Rattle.rings.specs.Rings.{along, leg, heading, corner, ring, edge, corner_edge, ranges, spiral, wedge, corner_wedge}
use Rattle.runs.proofs.Gathered.{gather_length}

-- A sum of equal numbers is a product.
total_equal : (a n : ℕ) → total (λ k. a) n ≡ n * a
unfolding total
total_equal a zero = omega arith
total_equal a (suc n) = omega (arith, total_equal a n)

-- Lists of equal length, one after the other.
equal_length : {A : Type 0} (f : ℕ → List A) (a n : ℕ) → ((k : ℕ) → length (f k) ≡ a) → length (gather f n) ≡ n * a
equal_length f a n h = gather_length f (λ k. a) n (λ k l. h k) ∙ total_equal a n

pub leg_length : (p : Tile) (d n : ℕ) → length (leg p d n) ≡ n
leg_length p d n = equal_length (λ k. along p d k ∷ []) 1 n (λ k. refl) ∙ omega arith

pub ring_length : (c : Tile) (d sense n : ℕ) → length (ring c d sense n) ≡ ring_count n
unfolding ring
ring_length c d sense zero = refl
ring_length c d sense (suc n) = equal_length _ (suc n) 6 (λ i. leg_length (corner (along c d (suc n)) d sense (suc n) i) (heading d sense i) (suc n))

pub edge_length : (c : Tile) (v sense n : ℕ) → length (edge c v sense n) ≡ n + 1
unfolding edge
edge_length c v zero n = leg_length (along c v n) (v + 2) (n + 1)
edge_length c v (suc sense) n = leg_length (along c (v + 1) n) (v + 5) (n + 1)

pub corner_edge_length : (c : Tile) (d n : ℕ) → length (corner_edge c d n) ≡ 2 * (n / 2) + 1
unfolding corner_edge
corner_edge_length c d n =
    length-append (leg (along c d n) (d + 2) (n / 2 + 1)) (leg (along (along c d n) (d + 4) 1) (d + 4) (n / 2))
    ∙ ap₂ ◌+◌ (leg_length (along c d n) (d + 2) (n / 2 + 1)) (leg_length (along (along c d n) (d + 4) 1) (d + 4) (n / 2))
    ∙ omega arith

-- Lists of several ranges: the sum of the lengths, from the first range to the last.
pub ranges_length : (f : ℕ → List Tile) (g : ℕ → ℕ) → ((n : ℕ) → length (f n) ≡ g n) → (first last : ℕ) → length (ranges f first last) ≡ total (λ k. g (first + k)) (last + 1 - first)
ranges_length f g h first last = gather_length (λ k. f (first + k)) (λ k. g (first + k)) (last + 1 - first) (λ k l. h (first + k))

pub spiral_length : (c : Tile) (first last d sense : ℕ) → length (spiral c first last d sense) ≡ total (λ k. ring_count (first + k)) (last + 1 - first)
spiral_length c first last d sense = ranges_length (ring c d sense) ring_count (ring_length c d sense) first last

pub wedge_length : (c : Tile) (first last v sense : ℕ) → length (wedge c first last v sense) ≡ total (λ k. first + k + 1) (last + 1 - first)
wedge_length c first last v sense = ranges_length (edge c v sense) (λ n. n + 1) (edge_length c v sense) first last

pub corner_wedge_length : (c : Tile) (first last d : ℕ) → length (corner_wedge c first last d) ≡ total (λ k. 2 * ((first + k) / 2) + 1) (last + 1 - first)
corner_wedge_length c first last d = ranges_length (corner_edge c d) (λ n. 2 * (n / 2) + 1) (corner_edge_length c d) first last

-- The sums from range 0, in closed form.
ring_sum : (r : ℕ) → total (λ k. ring_count (0 + k)) (suc r) ≡ 3 * r * (r + 1) + 1
unfolding total
ring_sum zero = refl
ring_sum (suc r) =
    let same : 0 + suc r ≡ suc r = omega arith in
    let last : ring_count (0 + suc r) ≡ 6 * suc r = ap ring_count same in
    omega (arith, ring_sum r)

pub spiral_from_centre : (c : Tile) (r d sense : ℕ) → length (spiral c 0 r d sense) ≡ 3 * r * (r + 1) + 1
spiral_from_centre c r d sense = spiral_length c 0 r d sense ∙ ap (total (λ k. ring_count (0 + k))) (omega arith) ∙ ring_sum r

edge_sum : (n : ℕ) → 2 * total (λ k. 0 + k + 1) (suc n) ≡ n * (n + 3) + 2
unfolding total
edge_sum zero = refl
edge_sum (suc n) = omega (arith, edge_sum n)

pub wedge_from_centre : (c : Tile) (n v sense : ℕ) → 2 * length (wedge c 0 n v sense) ≡ n * (n + 3) + 2
wedge_from_centre c n v sense = ap (λ (k : ℕ). 2 * k) (wedge_length c 0 n v sense ∙ ap (total (λ k. 0 + k + 1)) (omega arith)) ∙ edge_sum n

-- So the wedge from range 0 to n has as many tiles as its count says.
pub wedge_count_is : (c : Tile) (n v sense : ℕ) → length (wedge c 0 n v sense) ≡ wedge_count n
unfolding wedge_count
wedge_count_is c n v sense = let h = wedge_from_centre c n v sense in omega arith
