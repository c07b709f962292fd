-- `half` meets its contract: the shift rounds down, and what it gives is no larger than z.
use mathlib.Core.Path.{◌≡◌, ◌∙◌}
use native.Mathlib.Omega.{arith}
use lib.IntN.{ℤ}
use lib.Signed.{shr_z}
use mir.Syntax.{w64}
use mir.Val.{SFits}
use mir.Facts.{to_z-of_z}
use Rattle.whole.specs.Euclid.{quotient}
use Rattle.whole.proofs.Differences.{by2}
use Rattle.whole.proofs.Kit.{dif}
use Rattle.whole.proofs.half.Goals as goal

halved : (z z' : ℤ) → z' ≡ z → SFits w64 z → SFits w64 (shr_z z' 2) × (shr_z z' 2 ≡ quotient z 2)
halved = by2 _ (simp dif (omega arith))

pub returns : goal.returns
returns c = let h = halved _ _ (to_z-of_z c.ranges.z) c.ranges.z in to_z-of_z h.0 ∙ h.1
