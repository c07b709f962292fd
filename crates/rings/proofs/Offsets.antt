-- The offsets of a ring's tiles from its centre: n steps along direction e, then k along e + 2. A sixth of a turn takes those of e to those of e + 1, so what is shown of
-- direction 0 holds of every direction. They are the pairs that lead n far, all of them.
use mathlib.Core.Path.{◌≡◌, sym, ap, ap₂, ◌∙◌}
use Prim.Native.Nat.{ℕ, zero, suc, ◌+◌, ◌-◌, ◌%◌, ◌≤◌, ◌<◌}
use native.Mathlib.Decide.{dec_lt}
use native.Mathlib.Omega.{arith}
use lib.IntN.{ℤ, pos, negsuc, neg_ℤ, nat_abs, ◌+ℤ◌, ◌*ℤ◌}
use lib.ListN.{get_or}
use Rattle.whole.proofs.Differences.{by1, by2, by3, by4}
use Rattle.whole.proofs.Kit.{dif}
use Rattle.hexes.specs.Directions.{step, steps, step_of, sixth_turn}
use Rattle.hexes.specs.Tiles.{span}
use Rattle.hexes.specs.declared.Step.{Step}
use Rattle.hexes.proofs.Turning.{turning, half_turn}

-- Directions that differ by a multiple of six have the same step.
pub same_step : (d e : ℕ) → d % 6 ≡ e % 6 → step_of d ≡ step_of e
unfolding step_of
same_step d e h = ap (λ (k : ℕ). get_or steps k (step (pos 0) (pos 0))) h

-- The steps two, four and five directions on, in terms of the step of e.
pub second : (e : ℕ) → step_of (e + 2) ≡ sixth_turn (sixth_turn (step_of e))
second e = same_step (e + 2) (e + 1 + 1) (omega arith) ∙ sym (ap sixth_turn (turning e) ∙ turning (e + 1))

pub fourth : (e : ℕ) → step_of (e + 4) ≡ step (neg_ℤ (sixth_turn (step_of e)).0) (neg_ℤ (sixth_turn (step_of e)).1)
fourth e = same_step (e + 4) (e + 1 + 3) (omega arith) ∙ half_turn (e + 1) ∙ ap (λ (s : Step). step (neg_ℤ s.0) (neg_ℤ s.1)) (sym (turning e))

pub fifth : (e : ℕ) → step_of (e + 5) ≡ step (neg_ℤ (sixth_turn (sixth_turn (step_of e))).0) (neg_ℤ (sixth_turn (sixth_turn (step_of e))).1)
fifth e = same_step (e + 5) (e + 2 + 3) (omega arith) ∙ half_turn (e + 2) ∙ ap (λ (s : Step). step (neg_ℤ s.0) (neg_ℤ s.1)) (second e)

-- n steps along e and k along e + 2. Those with k from 0 to n make one side of the ring of range n, from corner e to corner e + 1.
unfoldable pub offset : ℕ → ℕ → ℕ → Step
offset n e k = step (pos n *ℤ (step_of e).0 +ℤ pos k *ℤ (step_of (e + 2)).0) (pos n *ℤ (step_of e).1 +ℤ pos k *ℤ (step_of (e + 2)).1)

-- Directions that differ by a multiple of six have the same offsets.
pub offset_same : (n d e k : ℕ) → d % 6 ≡ e % 6 → offset n d k ≡ offset n e k
unfolding offset
offset_same n d e k h = let g : (d + 2) % 6 ≡ (e + 2) % 6 = omega arith in rw (same_step d e h, same_step (d + 2) (e + 2) g)

-- A sixth of a turn goes to the next direction.
turned_x : (n k : ℕ) (x y u v : ℤ) → pos n *ℤ x +ℤ pos k *ℤ u +ℤ (pos n *ℤ y +ℤ pos k *ℤ v) ≡ pos n *ℤ (x +ℤ y) +ℤ pos k *ℤ (u +ℤ v)
turned_x n k = by4 _ (simp dif (omega arith))

turned_y : (n k : ℕ) (x u : ℤ) → neg_ℤ (pos n *ℤ x +ℤ pos k *ℤ u) ≡ pos n *ℤ neg_ℤ x +ℤ pos k *ℤ neg_ℤ u
turned_y n k = by2 _ (simp dif (omega arith))

pub offset_turned : (n e k : ℕ) → sixth_turn (offset n e k) ≡ offset n (e + 1) k
unfolding offset
offset_turned n e k =
    let next : step_of (e + 1 + 2) ≡ sixth_turn (step_of (e + 2)) = same_step (e + 1 + 2) (e + 2 + 1) (omega arith) ∙ sym (turning (e + 2)) in
    rw (next, ← turning e) (ap₂ step (turned_x n k (step_of e).0 (step_of e).1 (step_of (e + 2)).0 (step_of (e + 2)).1) (turned_y n k (step_of e).0 (step_of (e + 2)).0))

-- The last offset of one side is the first of the next: two sides share their corner.
round_x : (n : ℕ) (x y u : ℤ) → pos n *ℤ x +ℤ pos n *ℤ (x +ℤ y +ℤ neg_ℤ x) ≡ pos n *ℤ (x +ℤ y) +ℤ pos 0 *ℤ u
round_x n = by3 _ (simp dif (omega arith))

round_y : (n : ℕ) (x y u : ℤ) → pos n *ℤ y +ℤ pos n *ℤ neg_ℤ (x +ℤ y) ≡ pos n *ℤ neg_ℤ x +ℤ pos 0 *ℤ u
round_y n = by3 _ (simp dif (omega arith))

pub offset_round : (n e : ℕ) → offset n e n ≡ offset n (e + 1) 0
unfolding offset
offset_round n e = rw (second e, ← turning e) (ap₂ step (round_x n (step_of e).0 (step_of e).1 (step_of (e + 1 + 2)).0) (round_y n (step_of e).0 (step_of e).1 (step_of (e + 1 + 2)).1))

-- A sixth of a turn keeps how far a pair leads.
opposite_size : (x : ℤ) → nat_abs (neg_ℤ x) ≡ nat_abs x
opposite_size = by1 _ (simp dif (omega arith))

taken_off : (x y : ℤ) → x +ℤ y +ℤ neg_ℤ x ≡ y
taken_off = by2 _ (simp dif (omega arith))

span_turned : (x y : ℤ) → span (x +ℤ y) (neg_ℤ x) ≡ span x y
unfolding span
span_turned x y = rw (opposite_size x, taken_off x y) (omega arith)

-- The offsets of range n lead n far: those of direction 0 by calculation, the others by turning.
first_span : (n k : ℕ) → k ≤ n → span (offset n 0 k).0 (offset n 0 k).1 ≡ n
unfolding offset span step_of
first_span n k h = simp dif (omega arith)

pub offset_span : (n e k : ℕ) → k ≤ n → span (offset n e k).0 (offset n e k).1 ≡ n
offset_span n zero k h = first_span n k h
offset_span n (suc e) k h =
    let on : offset n (suc e) k ≡ sixth_turn (offset n e k) = offset_same n (suc e) (e + 1) k (omega arith) ∙ sym (offset_turned n e k) in
    rw on (span_turned (offset n e k).0 (offset n e k).1 ∙ offset_span n e k h)

-- That a pair is one of the offsets of range n, on the side that starts at corner `turns` and before the corner at which it ends.
pub record Rim (n : ℕ) (x y : ℤ) : Type 0 where
  pub turns : ℕ
  pub past : ℕ
  pub below : past < n
  pub here : step x y ≡ offset n turns past

-- Every pair but (0, 0) is an offset of some range, which is read off in each of the six sectors.
pub record Somewhere (x y : ℤ) : Type 0 where
  pub range : ℕ
  pub rim : Rim range x y

found : (n e k : ℕ) {x y : ℤ} → k < n → x ≡ (offset n e k).0 → y ≡ (offset n e k).1 → Somewhere x y
found n e k h p q = record { range = n; rim = record { turns = e; past = k; below = h; here = ap₂ step p q } }

-- Where x and y have different signs, the greater of the two sizes says which of two sectors it is.
plus_minus : (a b : ℕ) → Dec (b < a) → Somewhere (pos (suc a)) (negsuc b)
unfolding offset step_of
plus_minus a b (yes h) = found (suc a) 0 (suc b) (omega arith) (simp dif (omega arith)) (simp dif (omega arith))
plus_minus a b (no h) = found (suc b) 1 (b - a) (omega arith) (simp dif (omega arith)) (simp dif (omega arith))

minus_plus : (a b : ℕ) → Dec (b < suc a) → Somewhere (negsuc a) (pos b)
unfolding offset step_of
minus_plus a b (yes h) = found (suc a) 3 b (omega arith) (simp dif (omega arith)) (simp dif (omega arith))
minus_plus a b (no h) = found b 4 (b - suc a) (omega arith) (simp dif (omega arith)) (simp dif (omega arith))

pub somewhere : (x y : ℤ) → 0 < span x y → Somewhere x y
unfolding offset step_of span
somewhere (pos a) (pos (suc b)) h = found (a + suc b) 5 a (omega arith) (simp dif (omega arith)) (simp dif (omega arith))
somewhere (pos zero) (pos zero) h = absurd (omega arith)
somewhere (pos (suc a)) (pos zero) h = found (suc a) 0 0 (omega arith) (simp dif (omega arith)) (simp dif (omega arith))
somewhere (pos zero) (negsuc b) h = found (suc b) 2 0 (omega arith) (simp dif (omega arith)) (simp dif (omega arith))
somewhere (pos (suc a)) (negsuc b) h = plus_minus a b (dec_lt b a)
somewhere (negsuc a) (pos b) h = minus_plus a b (dec_lt b (suc a))
somewhere (negsuc a) (negsuc b) h = found (suc a + suc b) 2 (suc a) (omega arith) (simp dif (omega arith)) (simp dif (omega arith))

-- So the pairs that lead n far are offsets of range n: of what range they are is known from how far they lead.
pub on_rim : (n : ℕ) (x y : ℤ) → 0 < n → span x y ≡ n → Rim n x y
on_rim n x y h e =
    let s = somewhere x y (omega arith) in
    let r = s.rim in
    let q : span x y ≡ s.range = ap (λ (p : Step). span p.0 p.1) r.here ∙ offset_span s.range r.turns r.past (omega arith) in
    rw (sym q ∙ e) at r
