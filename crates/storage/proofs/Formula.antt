-- The formula by which hexx goes back from an index gives the same tile, for every radius and every index below the area.
use mathlib.Core.Path.{◌≡◌, ap, ◌∙◌, sym}
use Prim.Native.Nat.{ℕ, suc, ◌+◌, ◌*◌, ◌-◌, ◌/◌, ◌%◌, ◌<◌, ◌≤◌}
use native.Mathlib.Decide.{dec_le}
use native.Mathlib.Nat.{mod-lt, div-add-mod}
use native.Mathlib.Omega.{arith}
use lib.Arith.{digits_div}
use lib.IntN.{ℤ}
use Rattle.whole.proofs.Differences.{◌⊝◌, linear}
use Rattle.storage.specs.Hexmod.{shift_of}
use Rattle.storage.specs.Leaves.{strip_x, strip_y}
use Rattle.storage.specs.Maps.{area_of}
use Rattle.storage.proofs.Strips.{strips, first_places, last_places, back_x, back_y}

-- hexx's two quotients, and its x and y.
abbrev pub ms : ℕ → ℕ → ℕ
ms r c = (c + r) / shift_of r

abbrev pub mcs : ℕ → ℕ → ℕ
mcs r c = (c + 2 * r) / (3 * r + 1)

abbrev pub hexx_x : ℕ → ℕ → ℤ
hexx_x r c = (ms r c * (r + 1)) ⊝ (mcs r c * r)

abbrev pub hexx_y : ℕ → ℕ → ℤ
hexx_y r c = c ⊝ (ms r c * (2 * r + 1) + mcs r c * (r + 1))

module _ (r c m w : ℕ) (h : c < area_of r) (l : w < shift_of r) (e : m * shift_of r + w ≡ c + r) where
  -- The second quotient is m at the first places of a strip, and one more at the last.
  second : (k d : ℕ) → d < 3 * r + 1 → c + 2 * r ≡ k * (3 * r + 1) + d → mcs r c ≡ k
  second k d s f = ap (λ (t : ℕ). t / (3 * r + 1)) f ∙ digits_div k s

  in_strips : ((m * (r + 1)) ⊝ (mcs r c * r) ≡ strip_x r m w) × (c ⊝ (m * (2 * r + 1) + mcs r c * (r + 1)) ≡ strip_y r m w)
  in_strips = go (dec_le (m + w) (2 * r))
    where
      at_x : (k : ℕ) (x : ℤ) → mcs r c ≡ k → strip_x r m w ≡ x → (m * (r + 1)) ⊝ (k * r) ≡ x → (m * (r + 1)) ⊝ (mcs r c * r) ≡ strip_x r m w
      at_x k x f g s = ap (λ (t : ℕ). (m * (r + 1)) ⊝ (t * r)) f ∙ s ∙ sym g

      at_y : (k : ℕ) (y : ℤ) → mcs r c ≡ k → strip_y r m w ≡ y → c ⊝ (m * (2 * r + 1) + k * (r + 1)) ≡ y → c ⊝ (m * (2 * r + 1) + mcs r c * (r + 1)) ≡ strip_y r m w
      at_y k y f g s = ap (λ (t : ℕ). c ⊝ (m * (2 * r + 1) + t * (r + 1))) f ∙ s ∙ sym g

      go : Dec (m + w ≤ 2 * r) → ((m * (r + 1)) ⊝ (mcs r c * r) ≡ strip_x r m w) × (c ⊝ (m * (2 * r + 1) + mcs r c * (r + 1)) ≡ strip_y r m w)
      go (yes p) =
          let f = second m (m + w + r) (omega arith) (omega arith) in
          let s = first_places r m w p in
          (at_x m _ f s.0 (simp linear (omega arith)), at_y m _ f s.1 (simp linear (omega arith)))
      go (no p) =
          let n = strips r c m w h l e in
          let f = second (suc m) (m + w - (2 * r + 1)) (omega arith) (omega arith) in
          let s = last_places r m w (omega arith) in
          (at_x (suc m) _ f s.0 (simp linear (omega arith)), at_y (suc m) _ f s.1 (simp linear (omega arith)))

pub hexx_formula : (r c : ℕ) → c < area_of r → (hexx_x r c ≡ back_x r c) × (hexx_y r c ≡ back_y r c)
hexx_formula r c h = in_strips r c (ms r c) ((c + r) % shift_of r) h (mod-lt (c + r) (omega arith)) (omega (arith, div-add-mod (c + r) (shift_of r)))
