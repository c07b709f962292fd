-- Which tiles of a disc have which index, over every radius: the indices, r more, lie in strips of 3r+2, and place w of strip m has one tile.
use mathlib.Core.Path.{◌≡◌, sym, ap, ap₂, ◌∙◌, subst}
use Prim.Native.Nat.{ℕ, zero, suc, ◌+◌, ◌*◌, ◌-◌, ◌/◌, ◌%◌, ◌<◌, ◌≤◌}
use native.Mathlib.Omega.{arith}
use native.Mathlib.Nat.{mod-lt, div-add-mod, mul-le-mul_right}
use native.Mathlib.Decide.{dec_le}
use lib.Arith.{digits_div, digits_mod}
use lib.IntN.{ℤ, pos, negsuc, nat_abs, ◌+ℤ◌, ◌-ℤ◌, ◌*ℤ◌}
use lib.Signed.{◌≤ℤ◌}
use borrow.Author.Tests.{le-leb, lt-leb}
use Rattle.whole.specs.Euclid.{remainder}
use Rattle.whole.proofs.Differences.{◌⊝◌, by1, by3, linear, d_mul, d_negsuc, dif_up}
use Rattle.whole.proofs.Euclid.{euclid_only, remainder_below}
use Rattle.whole.proofs.Kit.{dif_b}
use Rattle.storage.specs.Maps.{area_of}
use Rattle.storage.specs.Hexmod.{shift_of}
use Rattle.storage.specs.Leaves.{strip_x, strip_y}

-- A tile of the disc of radius r round (0, 0), and the index of a tile.
pub record Disc (r : ℕ) (x y : ℤ) : Type 0 where
  pub disc_x : nat_abs x ≤ r
  pub disc_y : nat_abs y ≤ r
  pub disc_sum : nat_abs (x +ℤ y) ≤ r

abbrev pub value : ℕ → ℤ → ℤ → ℕ
value r x y = remainder (y +ℤ pos (shift_of r) *ℤ x) (area_of r)

value_is : (r : ℕ) (x y q : ℤ) (v : ℕ) → v < area_of r → pos (area_of r) *ℤ q +ℤ pos v ≡ y +ℤ pos (shift_of r) *ℤ x → value r x y ≡ v
value_is r x y q v h e = (euclid_only _ (area_of r) q v h e).1

-- The strip that a tile lies in, and its place there.
pub record At (r : ℕ) (x y : ℤ) : Type 0 where
  pub strip : ℕ
  pub place : ℕ
  pub low : place < shift_of r
  pub is : value r x y + r ≡ strip * shift_of r + place
  pub at_x : strip_x r strip place ≡ x
  pub at_y : strip_y r strip place ≡ y

minus : (w k : ℕ) → pos w -ℤ pos k ≡ w ⊝ k
minus w k = gap (pos w) (pos k) (w ⊝ k) (simp linear (omega arith))
  where
    gap : (x y z : ℤ) → x ≡ z +ℤ y → x -ℤ y ≡ z
    gap = by3 _ (simp linear (omega arith))

module _ (r m w : ℕ) where
  pub first_places : m + w ≤ 2 * r → (strip_x r m w ≡ m ⊝ 0) × (strip_y r m w ≡ w ⊝ r)
  unfolding strip_x strip_y
  first_places h = let f = le-leb (m + w) (2 * r) h in (rw f (minus m 0), rw f (minus w r))

  pub last_places : 2 * r < m + w → (strip_x r m w ≡ m ⊝ r) × (strip_y r m w ≡ w ⊝ (2 * r + 1))
  unfolding strip_x strip_y
  last_places h = let f = lt-leb (m + w) (2 * r) h in (rw f (minus m r), rw f (minus w (2 * r + 1)))

-- The right half, where y + (3r+2)x is a natural number: x = m, y = w - r.
right : (r a : ℕ) (y : ℤ) → a ≤ r → nat_abs y ≤ r → nat_abs (pos a +ℤ y) ≤ r → pos 0 ≤ℤ (y +ℤ pos (shift_of r) *ℤ pos a) → At r (pos a) y
right r a = by1 _ (λ c d hx hy hz p. let fy = simp dif_b at hy in let fz = simp dif_b at hz in let fp = simp dif_b at p in go c d hx (omega arith) (omega arith) (omega arith))
  where
    exact : (s v c d : ℕ) → v + d ≡ a * s + c → pos (area_of r) *ℤ pos 0 +ℤ pos v ≡ (c ⊝ d) +ℤ pos s *ℤ pos a
    exact s v c d e = simp linear (omega arith)

    go : (c d : ℕ) → a ≤ r → (c ≤ d + r) × (d ≤ c + r) → (a + c ≤ d + r) × (d ≤ a + c + r) → d ≤ c + shift_of r * a → At r (pos a) (c ⊝ d)
    go c d hx hy hz p =
        let le : a * shift_of r ≤ r * shift_of r = mul-le-mul_right (shift_of r) hx in
        let v : ℕ = a * shift_of r + c - d in
        let w : ℕ = r + c - d in
        let s = first_places r a w (omega arith) in
        let val : value r (pos a) (c ⊝ d) ≡ v = value_is r (pos a) (c ⊝ d) (pos 0) v (omega arith) (exact (shift_of r) v c d (omega arith)) in
        record {
          strip = a;
          place = w;
          low = omega arith;
          is = omega (arith, val);
          at_x = s.0 ∙ simp linear (omega arith);
          at_y = s.1 ∙ simp linear (omega arith);
        }

-- The left half, where it is negative and the area more is the index: x = m - r, y = w - (2r+1).
left : (r b : ℕ) (y : ℤ) → b ≤ r → nat_abs y ≤ r → nat_abs ((0 ⊝ b) +ℤ y) ≤ r → (y +ℤ pos (shift_of r) *ℤ (0 ⊝ b)) ≤ℤ negsuc 0 → At r (0 ⊝ b) y
left r b = by1 _ (λ c d hx hy hz p. let fy = simp dif_b at hy in let fz = simp dif_b at hz in let fp = simp dif_b at p in go c d hx (omega arith) (omega arith) (omega arith))
  where
    exact : (s v c d area : ℕ) → v + d + b * s ≡ area + c → pos area *ℤ negsuc 0 +ℤ pos v ≡ (c ⊝ d) +ℤ pos s *ℤ (0 ⊝ b)
    exact s v c d area e = simp (linear, d_mul) (omega arith)

    go : (c d : ℕ) → b ≤ r → (c ≤ d + r) × (d ≤ c + r) → (c ≤ b + d + r) × (b + d ≤ c + r) → c < d + shift_of r * b → At r (0 ⊝ b) (c ⊝ d)
    go c d hx hy hz p =
        let m : ℕ = r - b in
        let sum : m + b ≡ r = omega arith in
        let whole : m * shift_of r + b * shift_of r ≡ r * shift_of r = omega (arith, ap (λ (t : ℕ). t * shift_of r) sum) in
        let v : ℕ = m * shift_of r + r + 1 + c - d in
        let w : ℕ = 2 * r + 1 + c - d in
        let s = last_places r m w (omega arith) in
        let val : value r (0 ⊝ b) (c ⊝ d) ≡ v = value_is r (0 ⊝ b) (c ⊝ d) (negsuc 0) v (omega arith) (exact (shift_of r) v c d (area_of r) (omega arith)) in
        record {
          strip = m;
          place = w;
          low = omega arith;
          is = omega (arith, val);
          at_x = s.0 ∙ simp linear (omega arith);
          at_y = s.1 ∙ simp linear (omega arith);
        }

-- Which half a tile lies in is seen from x, and at x = 0 from y.
above : (r a : ℕ) (y : ℤ) → nat_abs y ≤ r → pos 0 ≤ℤ (y +ℤ pos (shift_of r) *ℤ pos (suc a))
above r a = by1 _ (λ c d h. let f = simp dif_b at h in simp linear (omega arith))

under : (r a : ℕ) (y : ℤ) → nat_abs y ≤ r → (y +ℤ pos (shift_of r) *ℤ (0 ⊝ suc a)) ≤ℤ negsuc 0
under r a = by1 _ (λ c d h. let f = simp dif_b at h in simp (linear, d_mul) (omega arith))

pub strip_of : (r : ℕ) (x y : ℤ) → Disc r x y → At r x y
strip_of r (pos zero) (pos b) d = right r zero (pos b) (omega arith) d.disc_y d.disc_sum (simp linear (omega arith))
strip_of r (pos zero) (negsuc b) d = subst (λ (x : ℤ). At r x (negsuc b)) (dif_up 0 0) (left r zero (negsuc b) (omega arith) d.disc_y (rw (dif_up 0 0) d.disc_sum) (simp (linear, d_mul) (omega arith)))
strip_of r (pos (suc a)) y d = right r (suc a) y d.disc_x d.disc_y d.disc_sum (above r a y d.disc_y)
strip_of r (negsuc a) y d = subst (λ (x : ℤ). At r x y) (sym (d_negsuc a)) (left r (suc a) y d.disc_x d.disc_y (rw (sym (d_negsuc a)) d.disc_sum) (under r a y d.disc_y))

-- A place of a strip has a tile of the disc, and its index.
module _ (r c m w : ℕ) (h : c < area_of r) (l : w < shift_of r) (e : m * shift_of r + w ≡ c + r) where
  -- The strips are 0 to r.
  pub strips : m ≤ r
  strips = go (dec_le m r)
    where
      go : Dec (m ≤ r) → m ≤ r
      go (yes p) = p
      go (no p) = let q : suc r ≤ m = omega arith in absurd (omega (arith, mul-le-mul_right (shift_of r) q))

  -- Its tile, from either of the two ways to count places.
  picked : (x y q : ℤ) → Disc r x y → pos (area_of r) *ℤ q +ℤ pos c ≡ y +ℤ pos (shift_of r) *ℤ x → strip_x r m w ≡ x → strip_y r m w ≡ y → Disc r (strip_x r m w) (strip_y r m w) × (value r (strip_x r m w) (strip_y r m w) ≡ c)
  picked x y q d g f k = rw (f, k) (d, value_is r x y q c h g)

  pub in_strip_lem : Disc r (strip_x r m w) (strip_y r m w) × (value r (strip_x r m w) (strip_y r m w) ≡ c)
  in_strip_lem = go (dec_le (m + w) (2 * r))
    where
      go : Dec (m + w ≤ 2 * r) → Disc r (strip_x r m w) (strip_y r m w) × (value r (strip_x r m w) (strip_y r m w) ≡ c)
      go (yes p) =
          let s = first_places r m w p in
          let n = strips in
          picked (m ⊝ 0) (w ⊝ r) (pos 0)
          (record { disc_x = simp dif_b (omega arith); disc_y = simp dif_b (omega arith); disc_sum = simp dif_b (omega arith) })
          (simp (linear, d_mul) (omega arith))
          s.0
          s.1
      go (no p) =
          let s = last_places r m w (omega arith) in
          let n = strips in
          picked (m ⊝ r) (w ⊝ (2 * r + 1)) (negsuc 0)
          (record { disc_x = simp dif_b (omega arith); disc_y = simp dif_b (omega arith); disc_sum = simp dif_b (omega arith) })
          (simp (linear, d_mul) (omega arith))
          s.0
          s.1

-- So a tile of the disc is found back by its index, no other tile has it, and every number below the area is the index of one.
abbrev pub back_x : ℕ → ℕ → ℤ
back_x r c = strip_x r ((c + r) / shift_of r) ((c + r) % shift_of r)

abbrev pub back_y : ℕ → ℕ → ℤ
back_y r c = strip_y r ((c + r) / shift_of r) ((c + r) % shift_of r)

pub value_below : (r : ℕ) (x y : ℤ) → value r x y < area_of r
value_below r x y = remainder_below _ (area_of r) (omega arith)

pub found_back : (r : ℕ) (x y : ℤ) → Disc r x y → (back_x r (value r x y) ≡ x) × (back_y r (value r x y) ≡ y)
found_back r x y d =
    let s = strip_of r x y d in
    let m : (value r x y + r) / shift_of r ≡ s.strip = ap (λ (t : ℕ). t / shift_of r) s.is ∙ digits_div s.strip s.low in
    let w : (value r x y + r) % shift_of r ≡ s.place = ap (λ (t : ℕ). t % shift_of r) s.is ∙ digits_mod s.strip s.low in
    (ap₂ (strip_x r) m w ∙ s.at_x, ap₂ (strip_y r) m w ∙ s.at_y)

pub one_tile : (r : ℕ) (x y x' y' : ℤ) → Disc r x y → Disc r x' y' → value r x y ≡ value r x' y' → (x ≡ x') × (y ≡ y')
one_tile r x y x' y' d d' e =
    let f = found_back r x y d in
    let g = found_back r x' y' d' in
    (sym f.0 ∙ ap (back_x r) e ∙ g.0, sym f.1 ∙ ap (back_y r) e ∙ g.1)

pub has_tile : (r c : ℕ) → c < area_of r → Disc r (back_x r c) (back_y r c) × (value r (back_x r c) (back_y r c) ≡ c)
has_tile r c h = in_strip_lem r c ((c + r) / shift_of r) ((c + r) % shift_of r) h (mod-lt (c + r) (omega arith)) (omega (arith, div-add-mod (c + r) (shift_of r)))
