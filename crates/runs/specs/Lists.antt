-- Lists made piece by piece, f 0, then f 1, and so on, k pieces in all; and the sum of k numbers.
use Rattle.std.specs.Prelude.{List, [], ◌++◌, ℕ, zero, suc, ◌+◌}

unfoldable pub gather : {A : Type 0} → (ℕ → List A) → ℕ → List A
gather f zero = []
gather f (suc k) = gather f k ++ f k

unfoldable pub total : (ℕ → ℕ) → ℕ → ℕ
total g zero = 0
total g (suc k) = total g k + g k
