-- The ground turned round: a land of `paths` in which each step is walked the other way, so that the routes to one end are the walks from it. Its least sums are the ranks
-- (`Rattle.routes.proofs.RankTables`).
use Rattle.std.specs.Prelude.{cond, ℕ, ◌+◌, ◌*◌, ltb}
use Rattle.paths.specs.Lands.{Land}
use Rattle.paths.specs.Tables.{Right}
use Rattle.routes.specs.Grounds.{Ground}
use Rattle.routes.specs.Ranks.{multiplier, no_rank}

-- What the step of direction d from u weighs: m for each unit of effort, and 1 for the step. It weighs 0, which shuts it, if u is not open or the step may not be made.
abbrev pub weight : Ground → ℕ → ℕ → ℕ → ℕ
weight G m u d = cond (G.is_open u) (cond (ltb (G.effort (G.next u d) d) G.barred) (G.effort (G.next u d) d * m + 1) 0) 0

-- A walk from the end to u has the list of a route from u, for its list has the last step first; and its sum is cost * m + steps.
abbrev pub turned : Ground → ℕ → Land
turned G m = record { tiles = G.tiles; mark = no_rank; prev = G.next; cost = weight G m }

-- The table T holds the least sums from e, and the mark where there is none: no budget cuts them off.
abbrev pub RightSums : Ground → ℕ → (ℕ → ℕ) → Type 0
RightSums G e T = Right (turned G multiplier) T e no_rank
