-- Distance is a distance: it is the same both ways, 0 between a tile and itself alone, and never longer than a way round; a neighbour is at distance 1.
use mathlib.Core.Path.{◌≡◌, refl, sym, ap, ap₂, ◌∙◌}
use mathlib.Core.List.{List, map}
use Prim.Native.Nat.{ℕ, ◌+◌, ◌%◌, ◌≤◌, max}
use native.Mathlib.Omega.{arith}
use lib.IntN.{ℤ, pos, nat_abs, ◌+ℤ◌, ◌-ℤ◌}
use lib.ListN.{get_or, replicate, get_or-map, get_or-replicate}
use Rattle.whole.proofs.Differences.{by1, by2, by3, by4}
use Rattle.whole.proofs.Kit.{dif}
use Rattle.hexes.specs.Directions.{step, steps, step_of}
use Rattle.hexes.specs.Tiles.{tile, span, distance_of, neighbor_of}
use Rattle.hexes.specs.declared.Step.{Step}
use Rattle.hexes.specs.declared.Tile.{Tile}

-- The same both ways.
flip : (x y : ℤ) → nat_abs (y -ℤ x) ≡ nat_abs (x -ℤ y)
flip = by2 _ (simp dif (omega arith))

flip_sum : (x y u v : ℤ) → nat_abs ((u -ℤ x) +ℤ (v -ℤ y)) ≡ nat_abs ((x -ℤ u) +ℤ (y -ℤ v))
flip_sum = by4 _ (simp dif (omega arith))

pub symmetric : (a b : Tile) → distance_of a b ≡ distance_of b a
unfolding distance_of span
symmetric a b = cc (flip a.x b.x, flip a.y b.y, flip_sum a.x a.y b.x b.y)

-- No longer than a way round.
size_sum : (x y : ℤ) → nat_abs (x +ℤ y) ≤ nat_abs x + nat_abs y
size_sum = by2 _ (simp dif (omega arith))

largest : (a b c a1 b1 c1 a2 b2 c2 : ℕ) → a ≤ a1 + a2 → b ≤ b1 + b2 → c ≤ c1 + c2 → max (max a b) c ≤ max (max a1 b1) c1 + max (max a2 b2) c2
largest a b c a1 b1 c1 a2 b2 c2 p q r = omega arith

regroup : (x y u v : ℤ) → (x +ℤ u) +ℤ (y +ℤ v) ≡ (x +ℤ y) +ℤ (u +ℤ v)
regroup = by4 _ (simp dif (omega arith))

span_sum : (x y u v : ℤ) → span (x +ℤ u) (y +ℤ v) ≤ span x y + span u v
unfolding span
span_sum x y u v = largest _ _ _ _ _ _ _ _ _ (size_sum x u) (size_sum y v) (rw (regroup x y u v) (size_sum (x +ℤ y) (u +ℤ v)))

through : (x y z : ℤ) → z -ℤ x ≡ (y -ℤ x) +ℤ (z -ℤ y)
through = by3 _ (simp dif (omega arith))

pub triangle : (a b c : Tile) → distance_of a c ≤ distance_of a b + distance_of b c
unfolding distance_of
triangle a b c = rw (through a.x b.x c.x, through a.y b.y c.y) (span_sum (b.x -ℤ a.x) (b.y -ℤ a.y) (c.x -ℤ b.x) (c.y -ℤ b.y))

-- 0 between a tile and itself alone.
none_largest : (a b c : ℕ) → max (max a b) c ≡ 0 → (a ≡ 0) × (b ≡ 0)
none_largest a b c e = omega arith

no_difference : (x y : ℤ) → nat_abs (y -ℤ x) ≡ 0 → x ≡ y
no_difference = by2 _ (simp dif (omega arith))

pub zero_same : (a b : Tile) → distance_of a b ≡ 0 → a ≡ b
unfolding distance_of span
zero_same a b e = let p = none_largest _ _ _ e in ap₂ tile (no_difference _ _ p.0) (no_difference _ _ p.1)

nothing : (x : ℤ) → x -ℤ x ≡ pos 0
nothing = by1 _ (simp dif (omega arith))

pub same_zero : (a : Tile) → distance_of a a ≡ 0
unfolding distance_of span
same_zero a = rw (nothing a.x, nothing a.y)

-- A neighbour is at distance 1: each step is one long, by one test over the table.
long : Step → ℕ
long s = span s.0 s.1

tested : map long steps ≡ replicate 6 1
unfolding long span
tested = refl

step_long : (d : ℕ) → long (step_of d) ≡ 1
unfolding step_of long
step_long d =
    sym (get_or-map long steps (d % 6) (step (pos 0) (pos 0)))
    ∙ ap (λ (l : List ℕ). get_or l (d % 6) (span (pos 0) (pos 0))) tested
    ∙ get_or-replicate 6 (d % 6) 1 (span (pos 0) (pos 0)) (omega arith)

-- So no coordinate of a step is larger than 1.
largest_one : (a b c : ℕ) → max (max a b) c ≡ 1 → (a ≤ 1) × (b ≤ 1)
largest_one a b c e = omega arith

pub step_small : (d : ℕ) → (nat_abs (step_of d).0 ≤ 1) × (nat_abs (step_of d).1 ≤ 1)
unfolding long span
step_small d = largest_one _ _ _ (step_long d)

stepped : (x s : ℤ) → x +ℤ s -ℤ x ≡ s
stepped = by2 _ (simp dif (omega arith))

pub neighbor_at_one : (t : Tile) (d : ℕ) → distance_of t (neighbor_of t d) ≡ 1
unfolding distance_of neighbor_of long
neighbor_at_one t d = rw (stepped t.x (step_of d).0, stepped t.y (step_of d).1) (step_long d)
