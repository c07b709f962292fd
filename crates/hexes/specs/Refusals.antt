-- The refusal numbers, each named once, and what is printed of a refusal. `src/refusal.rt` gives the same numbers to the refusals of the code. 0 is no refusal. Where several apply the lowest is given, but for
-- conversions from a grid, which judge an unknown number first, then an odd pair, then the limit.
use Rattle.std.specs.Prelude.{ℕ, List, Option, None, Some, decimal}
use Rattle.hexes.specs.declared.refusal.Refusal.{Refusal}

-- A coordinate, or a centre, beyond the limit; or a pair whose tile is beyond it.
abbrev pub beyond_limit : ℕ
beyond_limit = 1

-- A range or a radius beyond its limit.
abbrev pub too_large : ℕ
too_large = 2

-- A direction or vertex that is not 0 to 5, or a mode, orientation or turning sense that is not 0 or 1.
abbrev pub unknown_number : ℕ
unknown_number = 3

-- A doubled pair whose column and row have an odd sum.
abbrev pub odd_pair : ℕ
odd_pair = 4

-- A tile, start, end, index, or row and column that is not of the map.
abbrev pub not_of_map : ℕ
not_of_map = 5

-- An effort, totals or rank table whose length is not the map's area.
abbrev pub wrong_length : ℕ
wrong_length = 6

-- A lent run with fewer entries than twice the tiles of the answer.
abbrev pub run_too_short : ℕ
run_too_short = 7

-- A route that no open path makes.
abbrev pub no_open_path : ℕ
no_open_path = 8

-- A totals table that is not right.
abbrev pub not_right : ℕ
not_right = 9

-- The number of a refusal of the code. (9 is told with an index: `Rattle.field_of_movement.specs.Calls`.)
abbrev pub number_of : Refusal → ℕ
number_of Refusal.BeyondLimit = beyond_limit
number_of Refusal.TooLarge = too_large
number_of Refusal.UnknownNumber = unknown_number
number_of Refusal.OddPair = odd_pair
number_of Refusal.NotOfMap = not_of_map
number_of Refusal.WrongLength = wrong_length
number_of Refusal.RunTooShort = run_too_short
number_of Refusal.NoOpenPath = no_open_path

-- The number of what may be a refusal, 0 where there is none.
abbrev pub number_given : Option Refusal → ℕ
number_given None = 0
number_given (Some e) = number_of e

-- What is printed of a refusal: the decimal digits of its number.
abbrev pub refusal_text : Refusal → List ℕ
refusal_text e = decimal (number_of e)
