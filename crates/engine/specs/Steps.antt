-- Where a step leads and what it costs, in the two lands whose least sums the engine tells: the land of the map for totals, and its ground turned round for ranks.
use Rattle.std.specs.Prelude.{◌≡◌, cond, List, ℕ, ◌+◌, ◌*◌, ◌<◌, ltb, get_or, Option}
use Rattle.routes.specs.Ranks.{multiplier}
use Rattle.hexes.specs.Limits.{barred}
use Rattle.storage.specs.Leaves.{near_in}
use Rattle.storage.specs.declared.Index.{Index}
use Rattle.storage.specs.declared.Map.{Map}
use Rattle.terrain.specs.LandOfMap.{price_of, against}
use Rattle.engine.specs.Settling.{step_of, Small}
use Rattle.engine.specs.declared.steps.Table.{Table}

-- The effort of tile t, by the efforts E. Where there is no such tile, nobody may enter.
abbrev pub effort_at : List ℕ → ℕ → ℕ
effort_at E t = get_or E t barred

-- What a step weighs in a rank, by the efforts of the tile that is left and of the tile that is entered; 0, which bars the step, if either is barred.
unfoldable pub weight_by : ℕ → ℕ → ℕ
weight_by left entered = cond (ltb entered barred) (cond (ltb left barred) (left * multiplier + 1) 0) 0

-- What a step costs, by the same efforts; 0 bars the step.
abbrev pub cost_by : Table → ℕ → ℕ → ℕ
cost_by Table.Totals left entered = price_of entered
cost_by Table.Ranks left entered = weight_by left entered

-- The tile that the step out of u by direction d leads to.
abbrev pub to_of : Table → Map → ℕ → ℕ → ℕ
to_of Table.Totals map u d = near_in map u d
to_of Table.Ranks map u d = near_in map u (against d)

-- What it costs.
abbrev pub cost_of : Table → Map → List ℕ → ℕ → ℕ → ℕ
cost_of table map E u d = cost_by table (get_or E u 0) (effort_at E (to_of table map u d))

-- The steps by direction: step d leads to the tile `to d` at the cost `cost d`.
pub record Steps (to cost : ℕ → ℕ) (steps : List (Option Index × ℕ)) : Type 0 where
  pub each : (d : ℕ) → d < 6 → step_of steps d ≡ (to d, cost d)
  pub small : Small steps
