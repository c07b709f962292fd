-- The figures of the code are the lists that the promises name, and have as many tiles as the code counts.
use mathlib.Core.Path.{◌≡◌, refl, sym, ap, ap₂, ◌∙◌}
use mathlib.Core.List.{List, [], ◌∷◌, ◌++◌}
use Prim.Native.Nat.{ℕ, zero, suc, ◌+◌, ◌-◌, ◌*◌, ◌/◌, ◌%◌, ◌≤◌}
use native.Mathlib.Nat.{zero-add}
use native.Mathlib.Omega.{arith}
use lib.ListN.{length}
use Rattle.hexes.specs.declared.Tile.{Tile}
use Rattle.runs.specs.Lists.{gather}
use Rattle.runs.proofs.Gathered.{gather_ext, gather_length}
use Rattle.rings.specs.Leaves.{ring_leg, tiles_from, figure_at, figures, tiles_at, tiles_of}
use Rattle.rings.specs.Rings.{along, leg, heading, corner, ring, edge, corner_edge, ranges}
use Rattle.rings.specs.declared.figure.Figure.{Figure}
use Rattle.rings.specs.declared.figure.Shape.{Shape}
use Rattle.rings.proofs.Corners.{stay, along_same, along_more, corner_on, corner_back}
use Rattle.rings.proofs.Lengths.{ring_length, edge_length, corner_edge_length}

-- A figure by its shape, direction and sense.
abbrev pub shaped : Shape → ℕ → ℕ → Figure
shaped shape direction sense = record { shape = shape; direction = direction; sense = sense }

-- Tiles from the same place in the same direction, after none are left out.
same_tiles : (p q : Tile) (d e n : ℕ) → p ≡ q → d % 6 ≡ e % 6 → tiles_from p d 0 n ≡ leg q e n
same_tiles p q d e n h k = gather_ext _ _ n (λ i l. ap (λ (t : Tile). t ∷ []) (ap (λ (t : Tile). along t d (0 + i)) h ∙ ap (along q d) (zero-add i) ∙ along_same q d e i k))

-- A ring: the centre alone, or six legs from its corners.
ring_none : (c : Tile) (d s : ℕ) → figure_at (shaped Shape.Ring d s) c 0 ≡ ring c d s 0
unfolding gather ring_leg ring
ring_none c d s = ap (λ (t : Tile). t ∷ []) (sym (stay c (d + (1 + 4 * s) * 0) ∙ stay (along c (d + (1 + 4 * s) * 0) 0) (d + (1 + 4 * s) * 0 + 2 + 2 * s)))

ring_leg_on : (c : Tile) (d n i : ℕ) → tiles_from (along c (d + (1 + 4 * 0) * i) n) (d + (1 + 4 * 0) * i + 2 + 2 * 0) 0 n ≡ leg (corner (along c d n) d 0 n i) (heading d 0 i) n
ring_leg_on c d n i = same_tiles _ _ _ _ n (along_same c (d + (1 + 4 * 0) * i) (d + i) n (omega arith) ∙ sym (corner_on c d n i)) (omega arith)

ring_leg_back : (c : Tile) (d n i : ℕ) → tiles_from (along c (d + (1 + 4 * 1) * i) n) (d + (1 + 4 * 1) * i + 2 + 2 * 1) 0 n ≡ leg (corner (along c d n) d 1 n i) (heading d 1 i) n
ring_leg_back c d n i = same_tiles _ _ _ _ n (along_same c (d + (1 + 4 * 1) * i) (d + 5 * i) n (omega arith) ∙ sym (corner_back c d 0 n i)) (omega arith)

pub ring_is : (c : Tile) (d s n : ℕ) → s ≤ 1 → figure_at (shaped Shape.Ring d s) c n ≡ ring c d s n
unfolding ring_leg ring
ring_is c d s zero h = ring_none c d s
ring_is c d zero (suc n) h = gather_ext _ _ 6 (λ i l. ring_leg_on c d (suc n) i)
ring_is c d (suc zero) (suc n) h = gather_ext _ _ 6 (λ i l. ring_leg_back c d (suc n) i)
ring_is c d (suc (suc s)) (suc n) h = absurd (omega arith)

-- An edge is one leg.
pub edge_is : (c : Tile) (v s n : ℕ) → s ≤ 1 → figure_at (shaped Shape.Edge v s) c n ≡ edge c v s n
unfolding gather edge
edge_is c v zero n h = same_tiles _ _ _ _ (n + 1) (along_same c (v + 0) v n (omega arith)) (omega arith)
edge_is c v (suc zero) n h = same_tiles _ _ _ _ (n + 1) refl (omega arith)
edge_is c v (suc (suc s)) n h = absurd (omega arith)

-- A corner is two legs, of which the second leaves its first tile out.
first_leg : (p : Tile) (d n : ℕ) → tiles_from p (d + 2 + 2 * 0) 0 (n / 2 + 1 - 0) ≡ leg p (d + 2) (n / 2 + 1)
first_leg p d n = ap (tiles_from p (d + 2 + 2 * 0) 0) (omega arith) ∙ same_tiles _ _ _ _ (n / 2 + 1) refl (omega arith)

second_leg : (p : Tile) (d n : ℕ) → tiles_from p (d + 2 + 2 * 1) 1 (n / 2 + 1 - 1) ≡ leg (along p (d + 4) 1) (d + 4) (n / 2)
second_leg p d n =
    ap (tiles_from p (d + 2 + 2 * 1) 1) (omega arith)
    ∙ gather_ext _ _ (n / 2) (λ k l. ap (λ (t : Tile). t ∷ []) (along_same p (d + 2 + 2 * 1) (d + 4) (1 + k) (omega arith) ∙ sym (along_more p (d + 4) 1 k)))

pub corner_is : (c : Tile) (d s n : ℕ) → figure_at (shaped Shape.Corner d s) c n ≡ corner_edge c d n
unfolding gather corner_edge
corner_is c d s n = ap₂ ◌++◌ (first_leg (along c d n) d n) (second_leg (along c d n) d n)

-- The tiles that the code counts.
pub figure_length : (figure : Figure) (c : Tile) (n : ℕ) → figure.sense ≤ 1 → length (figure_at figure c n) ≡ tiles_at figure.shape n
figure_length figure c n h = by_shape figure.shape
  where
    by_shape : (shape : Shape) → length (figure_at (shaped shape figure.direction figure.sense) c n) ≡ tiles_at shape n
    by_shape Shape.Ring = ap length (ring_is c figure.direction figure.sense n h) ∙ ring_length c figure.direction figure.sense n
    by_shape Shape.Edge = ap length (edge_is c figure.direction figure.sense n h) ∙ edge_length c figure.direction figure.sense n
    by_shape Shape.Corner = ap length (corner_is c figure.direction figure.sense n) ∙ corner_edge_length c figure.direction n

pub figures_length : (figure : Figure) (c : Tile) (first count : ℕ) → figure.sense ≤ 1 → length (figures figure c first count) ≡ tiles_of figure.shape first count
figures_length figure c first count h = gather_length _ (λ k. tiles_at figure.shape (first + k)) count (λ k l. figure_length figure c (first + k) h)

-- A figure at several ranges is the list of those ranges, where it is the figure at each.
pub figures_are : (figure : Figure) (c : Tile) (f : ℕ → List Tile) → ((n : ℕ) → figure_at figure c n ≡ f n) → (first last : ℕ) → figures figure c first (last + 1 - first) ≡ ranges f first last
figures_are figure c f h first last = gather_ext _ _ (last + 1 - first) (λ k l. h (first + k))

-- One range alone.
pub one_range : (f : ℕ → List Tile) (n : ℕ) → ranges f n n ≡ f n
unfolding gather
one_range f n =
    let one : n + 1 - n ≡ 1 = omega arith in
    ap (gather (λ k. f (n + k))) one ∙ ap f (omega arith)
