-- The public call's promise leaves one outcome: two outcomes, answer, ranks and run, that meet it are equal. (That efforts are at most 65535 is known of a lent table of unsigned 16-bit numbers.)
use mathlib.Core.Path.{◌≡◌, refl, sym, ◌∙◌}
use mathlib.Core.Bool.{true}
use mathlib.Core.List.{List, []}
use Prim.Native.Nat.{ℕ, zero, suc, ◌≤◌, ◌<◌}
use native.Mathlib.Omega.{arith}
use lib.IntN.{ℤ}
use lib.ListN.{length}
use Rattle.hexes.specs.Answers.{Answer, provided}
use Rattle.hexes.specs.Limits.{radius_limit}
use Rattle.hexes.specs.Refusals.{not_of_map, no_open_path}
use Rattle.hexes.specs.declared.Tile.{Tile}
use Rattle.hexes.proofs.Chains.{passed}
use Rattle.runs.proofs.Ending.{lists_same}
use Rattle.runs.proofs.Unique.{lists_unique}
use Rattle.storage.specs.Maps.{map_refusal, of_map, judged_by}
use Rattle.storage.specs.declared.Map.{Map}
use Rattle.storage.proofs.Maps.{fine}
use Rattle.terrain.specs.Judging.{call_refusal}
use Rattle.terrain.proofs.BestRoutes.{one_list}
use Rattle.terrain.proofs.Judging.{Judged, judged}
use Rattle.terrain.proofs.RanksOfMap.{one_ranks}
use Rattle.terrain.proofs.Totals.{Efforts}
use Rattle.pathfinding.specs.Calls.{route_refusal, Leads, lost, led, Routes}

-- What is known of a call that is not refused.
known : (map : Map) (start end : Tile) (efforts ranks : ℕ) → route_refusal map start end efforts ranks ≡ 0 → (of_map map start ≡ true) × Judged map end efforts ranks
unfolding route_refusal
known map start end efforts ranks e = go (map_refusal map) e
  where
    go : (n : ℕ) → judged_by n (λ number. number) (provided (of_map map start) not_of_map (call_refusal map end efforts ranks)) ≡ 0 → (of_map map start ≡ true) × Judged map end efforts ranks
    go zero e = let p = passed (of_map map start) 4 (call_refusal map end efforts ranks) e in (p.0, (judged map end efforts ranks p.1).0)
    go (suc n) e = absurd (omega arith)

pub route_unique : (map : Map) (efforts : List ℕ) (start end : Tile) (before : List ℕ) (entry : List ℤ) (r r' : Answer ℕ) (after after' : List ℕ) (exit exit' : List ℤ) → Efforts efforts
    → Routes map efforts start end before entry r after exit → Routes map efforts start end before entry r' after' exit' → ((r ≡ r') × (exit ≡ exit')) × (after ≡ after')
route_unique map efforts start end before entry r r' after after' exit exit' short p q = go (route_refusal map start end (length efforts) (length before)) refl
  where
    one : map.radius ≤ radius_limit → of_map map start ≡ true → of_map map end ≡ true → Leads map efforts start end entry r exit → Leads map efforts start end entry r' exit' → (r ≡ r') × (exit ≡ exit')
    one small on on-end (lost n l) (lost n' l') = lists_unique no_open_path [] entry r r' exit exit' l l'
    one small on on-end (lost n l) (led tiles b l') = absurd (n b.entered b.best.cheapest.route)
    one small on on-end (led tiles b l) (lost n l') = absurd (n b.entered b.best.cheapest.route)
    one small on on-end (led tiles b l) (led tiles' b' l') =
        lists_unique 0 tiles entry r r' exit exit' l (lists_same 0 tiles' tiles (λ z. one_list map small efforts short end on-end start on tiles' tiles b' b) l')

    go : (n : ℕ) → route_refusal map start end (length efforts) (length before) ≡ n → ((r ≡ r') × (exit ≡ exit')) × (after ≡ after')
    go zero e =
        let k = known map start end (length efforts) (length before) e in
        let small = (fine map k.1.map_fine).small in
        let x = p.accepted e in
        let y = q.accepted e in
        (one small k.0 k.1.on x.1 y.1, one_ranks map small efforts short end k.1.on after after' x.0 y.0)
    go (suc n) e =
        let h : 0 < route_refusal map start end (length efforts) (length before) = omega arith in
        let x = p.refused h in
        let y = q.refused h in
        (lists_unique (route_refusal map start end (length efforts) (length before)) [] entry r r' exit exit' x.0 y.0, x.1 ∙ sym y.1)
