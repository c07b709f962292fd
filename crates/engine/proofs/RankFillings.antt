-- Laws of filling a table of ranks: what the leaves tell, over the ground turned round, are the ranks.
use mathlib.Core.Path.{◌≡◌, ap, ◌∙◌}
use mathlib.Core.List.{List}
use Prim.Native.Nat.{ℕ, ◌*◌, ◌-◌, ◌≤◌, ◌<◌}
use native.Mathlib.Nat.{mul-le-mul_right}
use native.Mathlib.Omega.{arith}
use lib.ListN.{length, get_or, replicate, get_or-replicate}
use borrow.Author.Tests.{lt-ltb, le-ltb}
use Rattle.paths.specs.Tables.{at, Capped}
use Rattle.paths.proofs.PlainWords.{right_marked}
use Rattle.routes.specs.Grounds.{Ground}
use Rattle.routes.specs.Ranks.{multiplier, no_rank, Ranks, Fits}
use Rattle.routes.specs.Turned.{turned}
use Rattle.routes.proofs.LeastSums.{heaviest, turned_capped}
use Rattle.routes.proofs.RankTables.{sums_ranks, shut_ranks}
use Rattle.hexes.specs.Limits.{barred}
use Rattle.storage.specs.Maps.{area_of}
use Rattle.storage.specs.declared.Map.{Map}
use Rattle.storage.proofs.Maps.{fine, area_small}
use Rattle.terrain.specs.GroundOfMap.{ground_of}
use Rattle.engine.specs.Leaves.{largest_total, largest_area}
use Rattle.engine.specs.Settling.{totals}
use Rattle.engine.specs.Steps.{to_of, cost_of}
use Rattle.engine.specs.Turns.{OfMap}
use Rattle.engine.specs.Writing.{rank_of, Filled}
use Rattle.engine.specs.declared.steps.Table.{Table}
use Rattle.engine.proofs.Budgets.{right_wider}
use Rattle.engine.proofs.Paving.{rank_land, ranks_paved}

-- A table in which all ranks stand is one of ranks.
module _ (map : Map) (E : List ℕ) (of : OfMap map E) where
  abbrev R : Ground
  R = ground_of map E

  few : area_of map.radius - 1 ≤ largest_area - 1
  few = omega (arith, area_small map.radius (fine map of.fine).small)

  small_enough : Fits R
  small_enough = record { tiles = omega (arith, few); efforts = omega arith }

  -- No least sum comes near the marks or the engine's budget, so they may be exchanged for those of ranks.
  below : (area_of map.radius - 1) * heaviest ≤ (largest_area - 1) * heaviest
  below = mul-le-mul_right {m = area_of map.radius - 1} {n = largest_area - 1} heaviest few

  no_dearer : Capped (rank_land map E) heaviest
  no_dearer =
      record { cap = λ u d t w st. (turned_capped small_enough).cap u d t w (record { into = st.into; dir = st.dir; from = st.from; on = st.on; price = st.price; paid = st.paid }) }

  -- The end is open.
  pub tells_open : (e : ℕ) (table : List ℕ) → e < length E → get_or E e 0 < barred → Filled rank_of (to_of Table.Ranks map) (cost_of Table.Ranks map E) (length E) largest_total e table → Ranks R e (at table)
  unfolding rank_of
  tells_open e table on h F =
      sums_ranks small_enough (record { on = here; is_open = lt-ltb (get_or E e 0) barred h })
      (right_wider (turned R multiplier) (at table) e largest_total no_rank heaviest here (turned_capped small_enough) (omega (arith, below)) (omega (arith, below)) (omega arith)
      (right_marked (rank_land map E) (totals F.tree) (at table) e largest_total heaviest no_rank here no_dearer (omega (arith, below)) (omega (arith, below))
      (λ t l. F.written.below t 0 (omega (arith, of.size))) (F.settles (rank_land map E) (ranks_paved map E of))))
    where
      here : e < area_of map.radius
      here = omega (arith, of.size)

  -- The end is barred, and every entry the mark.
  pub tells_barred : (e : ℕ) (table : List ℕ) → barred ≤ get_or E e 0 → table ≡ replicate (length E) no_rank → Ranks R e (at table)
  tells_barred e table h is =
      shut_ranks (at table) (le-ltb (get_or E e 0) barred h) (λ t l. ap (λ (L : List ℕ). get_or L t 0) is ∙ get_or-replicate (length E) t no_rank 0 (omega (arith, of.size)))
