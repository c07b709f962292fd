-- Where the legs of a ring start, and what lies along them: corner i of the ring of range n lies n steps from the centre in direction d + i, or d - i in sense 1.
use mathlib.Core.Path.{◌≡◌, sym, ap, ap₂, ◌∙◌}
use Prim.Native.Nat.{ℕ, zero, suc, ◌+◌, ◌*◌, ◌-◌, ◌%◌, ◌≤◌}
use native.Mathlib.Omega.{arith}
use lib.IntN.{ℤ, pos, neg_ℤ, ◌+ℤ◌, ◌-ℤ◌, ◌*ℤ◌}
use Rattle.whole.proofs.Differences.{by2, by3}
use Rattle.whole.proofs.Kit.{dif}
use Rattle.hexes.specs.Directions.{step, step_of, sixth_turn}
use Rattle.hexes.specs.Tiles.{tile, span, distance_of}
use Rattle.hexes.specs.declared.Step.{Step}
use Rattle.hexes.specs.declared.Tile.{Tile}
use Rattle.hexes.proofs.Turning.{turning}
use Rattle.rings.specs.Rings.{along, corner}
use Rattle.rings.proofs.Offsets.{same_step, fourth, fifth, offset, offset_round}

-- The tile at an offset from c.
unfoldable pub shifted : Tile → Step → Tile
shifted c s = tile (c.x +ℤ s.0) (c.y +ℤ s.1)

-- The distance to a shifted tile is how far its offset leads, and every tile is c shifted by the difference of the two.
off_again : (x s : ℤ) → x +ℤ s -ℤ x ≡ s
off_again = by2 _ (simp dif (omega arith))

pub shifted_distance : (c : Tile) (s : Step) → distance_of c (shifted c s) ≡ span s.0 s.1
unfolding shifted distance_of
shifted_distance c s = rw (off_again c.x s.0, off_again c.y s.1)

on_again : (x y : ℤ) → y ≡ x +ℤ (y -ℤ x)
on_again = by2 _ (simp dif (omega arith))

pub shifted_whole : (c t : Tile) → t ≡ shifted c (step (t.x -ℤ c.x) (t.y -ℤ c.y))
unfolding shifted
shifted_whole c t = ap₂ tile (on_again c.x t.x) (on_again c.y t.y)

-- From the corner in direction e, steps along e + 2, as in sense 0, pass the side of e from its start, and steps along e + 4, as in sense 1, pass the side of e + 5 from its
-- end.
join : (p a b : ℤ) → p +ℤ a +ℤ b ≡ p +ℤ (a +ℤ b)
join = by3 _ (simp dif (omega arith))

pub onwards : (c : Tile) (e n k : ℕ) → along (along c e n) (e + 2) k ≡ shifted c (offset n e k)
unfolding along shifted offset
onwards c e n k = ap₂ tile (join c.x (pos n *ℤ (step_of e).0) (pos k *ℤ (step_of (e + 2)).0)) (join c.y (pos n *ℤ (step_of e).1) (pos k *ℤ (step_of (e + 2)).1))

back_x : (m k : ℕ) (p x y : ℤ) → p +ℤ pos (m + k) *ℤ x +ℤ pos k *ℤ neg_ℤ (x +ℤ y) ≡ p +ℤ (pos (m + k) *ℤ neg_ℤ (x +ℤ y +ℤ neg_ℤ x) +ℤ pos m *ℤ (x +ℤ y))
back_x m k = by3 _ (simp dif (omega arith))

back_y : (m k : ℕ) (p x y : ℤ) → p +ℤ pos (m + k) *ℤ y +ℤ pos k *ℤ neg_ℤ (neg_ℤ x) ≡ p +ℤ (pos (m + k) *ℤ neg_ℤ (neg_ℤ (x +ℤ y)) +ℤ pos m *ℤ neg_ℤ x)
back_y m k = by3 _ (simp dif (omega arith))

backwards_by : (c : Tile) (e m k : ℕ) → along (along c e (m + k)) (e + 4) k ≡ shifted c (offset (m + k) (e + 5) m)
unfolding along shifted offset
backwards_by c e m k =
    let next : step_of (e + 5 + 2) ≡ sixth_turn (step_of e) = same_step (e + 5 + 2) (e + 1) (omega arith) ∙ sym (turning e) in
    rw (next, fourth e, fifth e) (ap₂ tile (back_x m k c.x (step_of e).0 (step_of e).1) (back_y m k c.y (step_of e).0 (step_of e).1))

pub backwards : (c : Tile) (e n k : ℕ) → k ≤ n → along (along c e n) (e + 4) k ≡ shifted c (offset n (e + 5) (n - k))
backwards c e n k h = let q : n - k + k ≡ n = omega arith in rw q at (backwards_by c e (n - k) k)

-- After 0 steps one stands where one was, so a corner is the first tile of its side.
no_steps : (p s : ℤ) → p ≡ p +ℤ pos 0 *ℤ s
no_steps = by2 _ (simp dif (omega arith))

pub stay : (p : Tile) (d : ℕ) → p ≡ along p d 0
unfolding along
stay p d = ap₂ tile (no_steps p.x (step_of d).0) (no_steps p.y (step_of d).1)

corner_offset : (c : Tile) (e n : ℕ) → along c e n ≡ shifted c (offset n e 0)
corner_offset c e n = stay (along c e n) (e + 2) ∙ onwards c e n 0

-- n steps along the second next direction lead from one corner to the next, and n steps along the fourth next to the one before.
pub round_on : (c : Tile) (e n : ℕ) → along (along c e n) (e + 2) n ≡ along c (e + 1) n
round_on c e n = onwards c e n n ∙ ap (shifted c) (offset_round n e) ∙ sym (corner_offset c (e + 1) n)

pub round_back : (c : Tile) (e n : ℕ) → along (along c e n) (e + 4) n ≡ along c (e + 5) n
round_back c e n = let none : n - n ≡ 0 = omega arith in rw none at (backwards c e n n (omega arith)) ∙ sym (corner_offset c (e + 5) n)

-- The tile along a direction depends on the direction's step alone.
pub along_same : (p : Tile) (d e k : ℕ) → d % 6 ≡ e % 6 → along p d k ≡ along p e k
unfolding along
along_same p d e k h = rw (same_step d e h)

-- Steps along a direction add up.
more_steps : (a b : ℕ) (p s : ℤ) → p +ℤ pos a *ℤ s +ℤ pos b *ℤ s ≡ p +ℤ pos (a + b) *ℤ s
more_steps a b = by2 _ (simp dif (omega arith))

pub along_more : (p : Tile) (d a b : ℕ) → along (along p d a) d b ≡ along p d (a + b)
unfolding along
along_more p d a b = ap₂ tile (more_steps a b p.x (step_of d).0) (more_steps a b p.y (step_of d).1)

-- The closed form of the corners: one direction on with each leg, or one back in sense 1, where five more is one less.
pub corner_on : (c : Tile) (d n i : ℕ) → corner (along c d n) d 0 n i ≡ along c (d + i) n
unfolding corner
corner_on c d n zero = along_same c d (d + 0) n (omega arith)
corner_on c d n (suc i) =
    ap (λ (p : Tile). along p (d + 2 + i) n) (corner_on c d n i)
    ∙ along_same (along c (d + i) n) (d + 2 + i) (d + i + 2) n (omega arith)
    ∙ round_on c (d + i) n
    ∙ along_same c (d + i + 1) (d + suc i) n (omega arith)

pub corner_back : (c : Tile) (d s n i : ℕ) → corner (along c d n) d (suc s) n i ≡ along c (d + 5 * i) n
unfolding corner
corner_back c d s n zero = along_same c d (d + 5 * 0) n (omega arith)
corner_back c d s n (suc i) =
    ap (λ (p : Tile). along p (d + 4 + 5 * i) n) (corner_back c d s n i)
    ∙ along_same (along c (d + 5 * i) n) (d + 4 + 5 * i) (d + 5 * i + 4) n (omega arith)
    ∙ round_back c (d + 5 * i) n
    ∙ along_same c (d + 5 * i + 5) (d + 5 * suc i) n (omega arith)
