-- What a writer does to a run that held `entry`: it lays tiles from place `at` on, so that `next` is the place behind them and the run then holds `exit`.
-- The contracts of private writers cite this; no public promise does.
use Rattle.std.specs.Prelude.{◌≡◌, List, ℕ, ◌+◌, ◌*◌, ℤ, length}
use Rattle.hexes.specs.declared.Tile.{Tile}
use Rattle.runs.specs.Runs.{entries, written}

pub record Laid (entry : List ℤ) (at : ℕ) (tiles : List Tile) (next : ℕ) (exit : List ℤ) : Type 0 where
  pub goes : next ≡ at + 2 * length tiles
  pub holds : exit ≡ written entry at (entries tiles)
