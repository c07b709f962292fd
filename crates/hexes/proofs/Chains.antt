-- Laws of a chain of `provided`, which judges test by test: what holds once a judgement came to 0, and of two tests joined.
use mathlib.Core.Path.{◌≡◌, refl}
use mathlib.Core.Bool.{Bool, true, false, cond, ◌&&◌}
use Prim.Native.Nat.{ℕ, suc}
use native.Mathlib.Omega.{arith}

pub passed : (b : Bool) (n m : ℕ) → cond b m (suc n) ≡ 0 → (b ≡ true) × (m ≡ 0)
passed true n m e = (refl, e)
passed false n m e = absurd (omega arith)

pub both : (a b : Bool) → (a && b) ≡ true → (a ≡ true) × (b ≡ true)
both true b e = (refl, e)
both false b e = let z : ◌≡◌ {A = ℕ} 0 1 = cc in absurd (omega arith)

pub and_no : (a : Bool) {b : Bool} → b ≡ false → (a && b) ≡ false
and_no true e = e
and_no false e = refl
