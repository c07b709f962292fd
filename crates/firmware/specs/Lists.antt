-- What the calls for C that list tiles promise: what the calls of the rings promise, with an answer that is the number of tiles or minus the number of a refusal.
use Rattle.std.specs.Prelude.{◌≡◌, List, ℕ, ℤ, length}
use Rattle.hexes.specs.declared.Tile.{Tile}
use Rattle.runs.specs.Runs.{listing, listed}
use Rattle.firmware.specs.Numbers.{answered}

-- A call that is asked to list `tiles`, where `number` is the refusal of its arguments, 0 if there is none; `before` becomes `after` in the lent run.
pub record ListCall (number : ℕ) (tiles : List Tile) (before after : List ℤ) (answer : ℤ) : Type 0 where
  pub answers : answer ≡ answered (listing number tiles (length before)).number (listing number tiles (length before)).value
  pub holds : after ≡ listed (listing number tiles (length before)).number tiles before
