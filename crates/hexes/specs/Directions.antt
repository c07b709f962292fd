-- The six steps in this order are numbered 0 to 5: (1,0), (1,-1), (0,-1), (-1,0), (-1,1), (0,1). Direction sums are taken modulo 6.
use Rattle.std.specs.Prelude.{List, [], ◌∷◌, ℕ, ◌+◌, ◌%◌, ℤ, pos, negsuc, neg_ℤ, ◌+ℤ◌, get_or}
use Rattle.hexes.specs.declared.Direction.{Direction}
use Rattle.hexes.specs.declared.Step.{Step}

abbrev pub step : ℤ → ℤ → Step
step x y = record { 0 = x; 1 = y }

-- `negsuc 0` is -1.
abbrev pub steps : List Step
steps = step (pos 1) (pos 0) ∷ step (pos 1) (negsuc 0) ∷ step (pos 0) (negsuc 0) ∷ step (negsuc 0) (pos 0) ∷ step (negsuc 0) (pos 1) ∷ step (pos 0) (pos 1) ∷ []

-- The step of a direction number. (The last argument of `get_or` is for a place past the list's end, which no number modulo 6 is.)
unfoldable pub step_of : ℕ → Step
step_of d = get_or steps (d % 6) (step (pos 0) (pos 0))

-- A direction and a number of sixth turns.
abbrev pub turned_by : ℕ → ℕ → Direction
turned_by d by = record { 0 = (d + by) % 6 }

-- A sixth of a turn takes (x, y) to (x + y, -x). It takes each step to the next one, which `Rattle.hexes.proofs.Turning` shows by one test over the table.
abbrev pub sixth_turn : Step → Step
sixth_turn s = step (s.0 +ℤ s.1) (neg_ℤ s.0)
