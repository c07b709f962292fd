-- `ring_leg` meets its contract: the ways through the code are the cases of the definition.
use mathlib.Core.Path.{◌≡◌, refl}
use Prim.Native.Nat.{ℕ, zero, suc, ◌<◌, ◌≤◌}
use native.Mathlib.Omega.{arith}
use Rattle.rings.specs.Leaves.{ring_leg}
use Rattle.rings.proofs.figure.ring_leg.Goals as goal

some : (n i : ℕ) → 0 < n → n ≡ ring_leg n i
unfolding ring_leg
some zero i h = absurd (omega arith)
some (suc n) i h = refl

centre_alone : (n i : ℕ) → n ≤ 0 → i ≡ 0 → ◌≡◌ {A = ℕ} 1 (ring_leg n i)
unfolding ring_leg
centre_alone zero zero h e = refl
centre_alone zero (suc i) h e = absurd (omega arith)
centre_alone (suc n) i h e = absurd (omega arith)

no_more : (n i : ℕ) → n ≤ 0 → (i ≡ 0 → ⊥) → ◌≡◌ {A = ℕ} 0 (ring_leg n i)
unfolding ring_leg
no_more zero zero h f = absurd (f refl)
no_more zero (suc i) h f = refl
no_more (suc n) i h f = absurd (omega arith)

pub returns-then-range-gt0 : goal.returns-then-range-gt0
returns-then-range-gt0 c = some c.args.range c.args.i c.if-range-gt0.true

pub returns-then-i-eq0 : goal.returns-then-i-eq0
returns-then-i-eq0 c = centre_alone c.args.range c.args.i c.if-range-gt0.false c.if-i-eq0.true

pub returns-else-i-eq0 : goal.returns-else-i-eq0
returns-else-i-eq0 c = no_more c.args.range c.args.i c.if-range-gt0.false c.if-i-eq0.false
