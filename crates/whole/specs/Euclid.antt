-- Division of a whole number by a natural one: the quotient is rounded down, so the remainder is never negative.
-- z is k times its quotient plus its remainder, and the remainder is below k; no other two numbers are so (`Rattle.whole.proofs.Euclid`).
-- Of -3 by 2 the quotient is -2 and the remainder 1. By 0 both are 0, so that nothing is undefined.
use Rattle.std.specs.Prelude.{ℕ, zero, suc, ◌-◌, ◌/◌, ◌%◌, ℤ, pos, negsuc}

-- `negsuc a` is -(a + 1).
unfoldable pub quotient : ℤ → ℕ → ℤ
quotient z zero = pos 0
quotient (pos a) (suc k) = pos (a / suc k)
quotient (negsuc a) (suc k) = negsuc (a / suc k)

unfoldable pub remainder : ℤ → ℕ → ℕ
remainder z zero = 0
remainder (pos a) (suc k) = a % suc k
remainder (negsuc a) (suc k) = k - a % suc k
