-- What the riding range and the totals check promise, and what a fault tells and prints.
use Rattle.std.specs.Prelude.{◌≡◌, List, ℕ, ◌<◌, ◌++◌, length, codes, decimal, Result, Ok, Err}
use Rattle.hexes.specs.Refusals.{number_of, not_right, refusal_text}
use Rattle.hexes.specs.declared.Tile.{Tile}
use Rattle.storage.specs.declared.Map.{Map}
use Rattle.terrain.specs.Judging.{call_refusal}
use Rattle.terrain.specs.NeighborRule.{Verdict}
use Rattle.terrain.specs.TilePaths.{LeastTotals}
use Rattle.field_of_movement.specs.declared.fault.Fault.{Fault}

-- The riding range answers a `Result`, whose number `number_told` reads, and `before` becomes `after` in the lent table: refused, the refusal number, and the table is unchanged; accepted, 0, and the table is that of the least sums.
pub record Ranges (map : Map) (efforts : List ℕ) (start : Tile) (budget : ℕ) (before after : List ℕ) (number : ℕ) : Type 0 where
  pub refused : 0 < call_refusal map start (length efforts) (length before) → (number ≡ call_refusal map start (length efforts) (length before)) × (after ≡ before)
  pub accepted : call_refusal map start (length efforts) (length before) ≡ 0 → (number ≡ 0) × LeastTotals map efforts start budget after

-- The totals check answers a `Result`, of which `verdict_number` and `verdict_index` read a number and an index: refused, the refusal number and 0; accepted, the verdict on the table.
pub record Checks (map : Map) (efforts : List ℕ) (start : Tile) (budget : ℕ) (totals : List ℕ) (number index : ℕ) : Type 0 where
  pub refused : 0 < call_refusal map start (length efforts) (length totals) → (number ≡ call_refusal map start (length efforts) (length totals)) × (index ≡ 0)
  pub accepted : call_refusal map start (length efforts) (length totals) ≡ 0 → Verdict map efforts start budget totals number index

-- What the totals check answers, as a number and an index: of a table that is right both are 0, of a refusal the index, and of one that is not right the number is 9.
abbrev pub fault_number : Fault → ℕ
fault_number (Fault.Refused refusal) = number_of refusal
fault_number (Fault.NotRight index) = not_right

abbrev pub fault_index : Fault → ℕ
fault_index (Fault.Refused refusal) = 0
fault_index (Fault.NotRight index) = index.0

abbrev pub verdict_number : Result (Unit {0}) Fault → ℕ
verdict_number (Ok u) = 0
verdict_number (Err fault) = fault_number fault

abbrev pub verdict_index : Result (Unit {0}) Fault → ℕ
verdict_index (Ok u) = 0
verdict_index (Err fault) = fault_index fault

-- What is printed of a fault: of a refusal its own text, and of a table that is not right the number 9 and the index at which it is not, as in `9 at 5`.
abbrev pub fault_text : Fault → List ℕ
fault_text (Fault.Refused refusal) = refusal_text refusal
fault_text (Fault.NotRight index) = decimal not_right ++ (codes " at " ++ decimal index.0)
