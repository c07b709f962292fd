-- A table holds the ranks exactly if it holds the least sums of the turned ground. Only one table does.
use mathlib.Core.Path.{◌≡◌, sym, ◌∙◌}
use mathlib.Core.Bool.{false}
use mathlib.Core.Logic.{◌↔◌}
use mathlib.Core.List.{List}
use Prim.Native.Nat.{ℕ, ◌+◌, ◌*◌, ◌<◌}
use native.Mathlib.Decide.{dec_lt}
use native.Mathlib.Omega.{arith}
use lib.ListN.{length}
use lib.Seq.{ext_get_or}
use Rattle.paths.specs.Tables.{at}
use Rattle.paths.proofs.RightTable.{right_exists}
use Rattle.paths.proofs.PlainWords.{right_like, no_way}
use Rattle.routes.specs.Grounds.{Ground, OpenTile}
use Rattle.routes.specs.Routes.{NoRoute}
use Rattle.routes.specs.Ranks.{multiplier, no_rank, RankOf, far, Ranks, Fits}
use Rattle.routes.specs.Turned.{turned, RightSums}
use Rattle.routes.proofs.Turning.{route_end, route_walk}
use Rattle.routes.proofs.LeastSums.{heaviest, turned_capped, least_rank}
use Rattle.routes.proofs.RankLaws.{rank_unique}

pub ranks_unique : {G : Ground} {e : ℕ} {T T' : ℕ → ℕ} → Ranks G e T → Ranks G e T' → (u : ℕ) → u < G.tiles → T u ≡ T' u
ranks_unique K K' u h = rank_unique (K.each u h) (K'.each u h)

-- Two lists of ranks of the ground's length are equal.
pub rank_lists : {G : Ground} {e : ℕ} (L L' : List ℕ) → length L ≡ G.tiles → length L' ≡ G.tiles → Ranks G e (at L) → Ranks G e (at L') → L ≡ L'
rank_lists L L' q q' K K' = ext_get_or 0 L L' (q ∙ sym q') (λ u h. ranks_unique K K' u (omega arith))

module _ {G : Ground} {e : ℕ} (F : Fits G) (o : OpenTile G e) where
  pub sums_ranks : {T : ℕ → ℕ} → RightSums G e T → Ranks G e T
  sums_ranks {T} R = record { each = λ u h. go u h (dec_lt (T u) no_rank) }
    where
      go : (u : ℕ) → u < G.tiles → Dec (T u < no_rank) → RankOf G e u (T u)
      go u h (yes m) = least_rank F o (R.found u h m).0
      go u h (no m) =
          let q : T u ≡ no_rank = (R.missed u h (omega arith)).0 in
          far
          (λ es x p.
          no_way (turned G multiplier) T e no_rank heaviest o.on (turned_capped F) (omega (arith, F.tiles)) (omega arith) R u h q es (x * multiplier + length es)
          (route_walk G multiplier p))
          q

  pub ranks_sums : {T : ℕ → ℕ} → Ranks G e T → RightSums G e T
  ranks_sums {T} K =
      let made = right_exists (turned G multiplier) e no_rank o.on in
      right_like (turned G multiplier) (at made.0) T e no_rank (ranks_unique K (sums_ranks made.2)) made.2

  pub ranks_iff_sums : (T : ℕ → ℕ) → Ranks G e T ↔ RightSums G e T
  ranks_iff_sums T = (ranks_sums, sums_ranks)

-- For an end that is not open, the table holds the mark everywhere.
pub shut_ranks : {G : Ground} {e : ℕ} (T : ℕ → ℕ) → G.is_open e ≡ false → ((u : ℕ) → u < G.tiles → T u ≡ no_rank) → Ranks G e T
shut_ranks {G} {e} T q h = record { each = λ u l. far (none u) (h u l) }
  where
    none : (u : ℕ) → NoRoute G e u
    none u ds v r =
        let z : ◌≡◌ {A = ℕ} 0 1 = cc (route_end r).is_open in
        omega arith
