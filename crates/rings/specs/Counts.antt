-- Counts, exact for every n and never refused: a ring has 1 tile at range 0 and else 6n, a wedge of ranges 0 to n has n(n+3)/2 + 1.
use Rattle.std.specs.Prelude.{ℕ, zero, suc, ◌+◌, ◌*◌, ◌/◌}

abbrev pub ring_count : ℕ → ℕ
ring_count zero = 1
ring_count (suc n) = 6 * suc n

unfoldable pub wedge_count : ℕ → ℕ
wedge_count n = n * (n + 3) / 2 + 1
