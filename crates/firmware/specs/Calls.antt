-- What the calls for C promise: what the calls of the field of movement and the route promise, over a map and tiles given by their numbers, with an answer that is the result or minus the
-- number of the refusal.
use Rattle.std.specs.Prelude.{◌≡◌, cond, List, ℕ, eqb, ℤ, pos, ◌-ℤ◌, set, Ok, Err}
use Rattle.hexes.specs.Answers.{Answer}
use Rattle.hexes.specs.Refusals.{number_of, not_right}
use Rattle.hexes.specs.Tiles.{tile}
use Rattle.hexes.specs.declared.Tile.{Tile}
use Rattle.storage.specs.declared.Map.{Map}
use Rattle.field_of_movement.specs.Calls.{Ranges, Checks}
use Rattle.pathfinding.specs.Calls.{Routes}

abbrev pub minus : ℕ → ℤ
minus n = pos 0 -ℤ pos n

-- What a call that answers a number has found, as C is told it: that number, or minus the number of the refusal.
abbrev pub answer_told : Answer ℕ → ℤ
answer_told (Ok n) = pos n
answer_told (Err e) = minus (number_of e)

-- The map of a centre and a radius.
abbrev pub map_at : ℤ → ℤ → ℕ → Map
map_at cx cy radius = record { centre = tile cx cy; radius = radius }

-- A run in which a broken index is noted: it stands in the first entry, where the number is 9 and there is an entry. (`set` leaves a run without that entry as it is.)
unfoldable pub noted : ℕ → ℕ → List ℕ → List ℕ
noted number index run = cond (eqb number not_right) (set run 0 index) run

-- The riding range answers minus its number, and `before` becomes `after` in the lent table.
pub record RangeCall (map : Map) (efforts : List ℕ) (start : Tile) (budget : ℕ) (before after : List ℕ) (answer : ℤ) : Type 0 where
  pub number : ℕ
  pub answers : answer ≡ minus number
  pub ranges : Ranges map efforts start budget before after number

-- The totals check answers minus its number, and `before` becomes `after` in the run for a broken index.
pub record CheckCall (map : Map) (efforts : List ℕ) (start : Tile) (budget : ℕ) (totals before after : List ℕ) (answer : ℤ) : Type 0 where
  pub number : ℕ
  pub index : ℕ
  pub answers : answer ≡ minus number
  pub checks : Checks map efforts start budget totals number index
  pub notes : after ≡ noted number index before

-- The route answers its number of tiles or minus its number, `before` becomes `after` in the rank table, and `entry` becomes `exit` in the run.
pub record RouteCall (map : Map) (efforts : List ℕ) (start end : Tile) (before after : List ℕ) (entry exit : List ℤ) (answer : ℤ) : Type 0 where
  pub list : Answer ℕ
  pub answers : answer ≡ answer_told list
  pub routes : Routes map efforts start end before entry list after exit
