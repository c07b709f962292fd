-- Where there is a route there is a best one: the way down the ranks.
use mathlib.Core.List.{List}
use Prim.Native.Nat.{ℕ, ◌/◌, ◌<◌}
use Rattle.paths.specs.Tables.{at}
use Rattle.paths.proofs.RightTable.{right_exists}
use Rattle.routes.specs.Grounds.{Ground}
use Rattle.routes.specs.Routes.{Route, BestRoute}
use Rattle.routes.specs.Ranks.{multiplier, no_rank, Ranks, Fits}
use Rattle.routes.specs.Turned.{turned}
use Rattle.routes.proofs.Turning.{route_start, route_end}
use Rattle.routes.proofs.RankLaws.{rank_some}
use Rattle.routes.proofs.RankTables.{sums_ranks}
use Rattle.routes.proofs.DownIsBest.{down_ends, down_best}

-- Where there is a route there is a best one.
pub best_exists : {G : Ground} {e s v : ℕ} {es : List ℕ} → Fits G → Route G e s es v → (ds : List ℕ) × (x : ℕ) × BestRoute G s e ds x
best_exists {G} {e} {s} F r =
    let hs : s < G.tiles = (route_start r).on in
    let made = right_exists (turned G multiplier) e no_rank (route_end r).on in
    let T : ℕ → ℕ = at made.0 in
    let K : Ranks G e T = sums_ranks F (route_end r) made.2 in
    let m : T s < no_rank = rank_some F (K.each s hs) r in
    let d = down_ends F K hs m in
    (d.0, T s / multiplier, (down_best F K hs m d.1).best)
