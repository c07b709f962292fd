-- The best route in tiles is the best route over the ground of the map; and there is one.
use mathlib.Core.Path.{◌≡◌, refl, sym, ap, ◌∙◌, subst}
use mathlib.Core.Bool.{true}
use mathlib.Core.Logic.{◌↔◌, ◌⊎◌, inl, inr}
use mathlib.Core.List.{List, [], ◌∷◌}
use Prim.Native.Nat.{ℕ, ◌≤◌, ◌<◌}
use native.Mathlib.Decide.{dec_lt}
use native.Mathlib.Omega.{arith}
use lib.ListN.{length}
use Rattle.routes.specs.Grounds.{Ground}
use Rattle.routes.specs.Ranks.{LeastCost, FewestSteps}
use Rattle.routes.specs.Routes.{Route, NoRoute, Smaller, Better, BestRoute}
use Rattle.routes.proofs.Comparing.{best_unique, best_least, best_fewest}
use Rattle.routes.proofs.BestExists.{best_exists}
use Rattle.hexes.specs.Limits.{barred, radius_limit}
use Rattle.hexes.specs.declared.Tile.{Tile}
use Rattle.storage.specs.Hexmod.{index_in}
use Rattle.storage.specs.Maps.{of_map}
use Rattle.storage.specs.declared.Map.{Map}
use Rattle.terrain.specs.GroundOfMap.{ground_of}
use Rattle.terrain.specs.TilePaths.{entry_at}
use Rattle.terrain.specs.TileRoutes.{TileRoute, cost_of, Directions, Cheapest, BestTileRoute, BestTiles, NoTileRoute}
use Rattle.terrain.proofs.RoutesOfMap.{same_tiles, steps_count, directed, ground_fits, route_of, TilesOf, tiles_from_lem}
use Rattle.terrain.proofs.Totals.{Efforts}

-- A route that costs the same as a cheapest one, in no more steps, is a cheapest one too.
as_cheap : (map : Map) (efforts : List ℕ) (start end : Tile) (ts us : List Tile) → Cheapest map efforts start end ts → TileRoute map efforts start end us
    → cost_of map efforts start us ≡ cost_of map efforts start ts → length us ≤ length ts → Cheapest map efforts start end us
as_cheap map efforts start end ts us C r e l =
    record { route = r; least = λ other o. omega (arith, C.least other o); fewest = λ other o z. omega (arith, C.fewest other o (omega arith)) }

-- From an open tile to itself the best route is that tile alone.
pub home_tiles : (map : Map) (efforts : List ℕ) (t : Tile) → of_map map t ≡ true → (entry_at map efforts t ≡ barred → ⊥) → BestTiles map efforts t t (t ∷ [])
home_tiles map efforts t on o =
    record {
      entered = [];
      best =
          record {
            cheapest = record { route = home; least = λ us r. omega arith; fewest = λ us r e. omega arith };
            by = [];
            directions = tt;
            smallest = λ us es C q. inl (alone us es C q);
          };
      both_ends = refl;
    }
  where
    home : TileRoute map efforts t t []
    home = record { leads = record { path = on; ends = refl; opens = tt }; begins = o }

    alone : (us : List Tile) (es : List ℕ) → Cheapest map efforts t t us → Directions t us es → [] ≡ es
    alone us [] C q = refl
    alone us (d ∷ es) C q = absurd (omega (arith, C.fewest [] home (omega (arith, C.least [] home)), steps_count t us (d ∷ es) q))

module _ (map : Map) (small : map.radius ≤ radius_limit) (efforts : List ℕ) (short : Efforts efforts) (end : Tile) (on_end : of_map map end ≡ true) (start : Tile) (on : of_map map start ≡ true) where
  abbrev G : Ground
  G = ground_of map efforts

  abbrev cost : List Tile → ℕ
  cost = cost_of map efforts start

  -- A route in tiles, and one over the ground.
  pub over_ground : (ts : List Tile) (ds : List ℕ) → TileRoute map efforts start end ts → Directions start ts ds → Route G (index_in map end) (index_in map start) ds (cost ts)
  over_ground ts ds r q = route_of map small efforts short start end ts ds r q

  pub in_tiles : {ds : List ℕ} {v : ℕ} → Route G (index_in map end) (index_in map start) ds v → TilesOf map small efforts short start end ds v
  in_tiles r = tiles_from_lem map small efforts short end on_end start on refl refl r

  pub route_iff : (ts : List Tile) (ds : List ℕ) → Directions start ts ds → TileRoute map efforts start end ts ↔ Route G (index_in map end) (index_in map start) ds (cost ts)
  route_iff ts ds q =
      (λ r. over_ground ts ds r q, λ r. let k = in_tiles r in subst (TileRoute map efforts start end) (same_tiles start k.entered ts ds k.directions q) k.route)

  pub no_route : NoTileRoute map efforts start end ↔ NoRoute G (index_in map end) (index_in map start)
  no_route =
      (λ n ds v r. let k = in_tiles r in n k.entered k.route, λ n ts r. let q = directed map start ts r.leads.path in n q.0 (cost ts) (over_ground ts q.0 r q.1))

  -- A cheapest route has the least cost over the ground, and the fewest steps at it.
  module _ (ts : List Tile) (C : Cheapest map efforts start end ts) where
    by : (ds : List ℕ) × Directions start ts ds
    by = directed map start ts C.route.leads.path

    pub least_of : LeastCost G (index_in map end) (index_in map start) (cost ts)
    least_of = record { dirs = by.0; route = over_ground ts by.0 C.route by.1; least = λ es x r. let k = in_tiles r in omega (arith, k.is, C.least k.entered k.route) }

    pub fewest_of : FewestSteps G (index_in map end) (index_in map start) (cost ts) (length ts)
    fewest_of =
        record {
          dirs = by.0;
          route = over_ground ts by.0 C.route by.1;
          steps = steps_count start ts by.0 by.1;
          fewest = λ es r. let k = in_tiles r in omega (arith, C.fewest k.entered k.route k.is, steps_count start k.entered es k.directions);
        }

  pub cheapest_of : {ds : List ℕ} {v n : ℕ} → LeastCost G (index_in map end) (index_in map start) v → FewestSteps G (index_in map end) (index_in map start) v n
      → (k : TilesOf map small efforts short start end ds v) → length ds ≡ n → Cheapest map efforts start end k.entered
  cheapest_of {ds} {v} {n} L F k e = record { route = k.route; least = λ other r. least other r (by other r); fewest = λ other r z. fewest other r z (by other r) }
    where
      by : (ts : List Tile) → TileRoute map efforts start end ts → (es : List ℕ) × Directions start ts es
      by ts r = directed map start ts r.leads.path

      least : (ts : List Tile) → TileRoute map efforts start end ts → (es : List ℕ) × Directions start ts es → cost k.entered ≤ cost ts
      least ts r q = omega (arith, k.is, L.least q.0 (cost ts) (over_ground ts q.0 r q.1))

      fewest : (ts : List Tile) → TileRoute map efforts start end ts → cost ts ≡ cost k.entered → (es : List ℕ) × Directions start ts es → length k.entered ≤ length ts
      fewest ts r z q =
          let p : Route G (index_in map end) (index_in map start) q.0 v = rw (z ∙ k.is) at (over_ground ts q.0 r q.1) in
          omega (arith, F.fewest q.0 p, steps_count start ts q.0 q.1, steps_count start k.entered ds k.directions)

  -- The best route.
  pub best_over : (ts : List Tile) (B : BestTileRoute map efforts start end ts) → BestRoute G (index_in map start) (index_in map end) B.by (cost ts)
  best_over ts B =
      record { route = over_ground ts B.by B.cheapest.route B.directions; best = λ es x r. go es x (in_tiles r) (dec_lt (cost ts) x) (dec_lt (length B.by) (length es)) }
    where
      go : (es : List ℕ) (x : ℕ) → TilesOf map small efforts short start end es x → Dec (cost ts < x) → Dec (length B.by < length es) → (B.by ≡ es) ⊎ Better (cost ts) B.by x es
      go es x k (yes l) m = inr (inl l)
      go es x k (no l) (yes m) = inr (inr (omega (arith, k.is, B.cheapest.least k.entered k.route), inl m))
      go es x k (no l) (no m) =
          let z : cost ts ≡ x = omega (arith, k.is, B.cheapest.least k.entered k.route) in
          let same = k.is ∙ sym z in
          let n = steps_count start ts B.by B.directions in
          let n' = steps_count start k.entered es k.directions in
          let f = B.cheapest.fewest k.entered k.route same in
          last (B.smallest k.entered es (as_cheap map efforts start end ts k.entered B.cheapest k.route same (omega arith)) k.directions) z (omega arith)
        where
          last : (B.by ≡ es) ⊎ Smaller B.by es → cost ts ≡ x → length B.by ≡ length es → (B.by ≡ es) ⊎ Better (cost ts) B.by x es
          last (inl e) z h = inl e
          last (inr s) z h = inr (inr (z, inr (h, s)))

  pub best_in_tiles : {ds : List ℕ} {v : ℕ} → BestRoute G (index_in map start) (index_in map end) ds v → (k : TilesOf map small efforts short start end ds v) → BestTileRoute map efforts start end k.entered
  best_in_tiles {ds} {v} B k =
      record {
        cheapest = cheapest_of (best_least B) (best_fewest B) k refl;
        by = ds;
        directions = k.directions;
        smallest = λ us es C q. go us es C q (B.best es (cost us) (over_ground us es C.route q));
      }
    where
      go : (us : List Tile) (es : List ℕ) → Cheapest map efforts start end us → Directions start us es → (ds ≡ es) ⊎ Better v ds (cost us) es → (ds ≡ es) ⊎ Smaller ds es
      go us es C q (inl e) = inl e
      go us es C q (inr (inl l)) = absurd (omega (arith, k.is, C.least k.entered k.route))
      go us es C q (inr (inr (z, inl l))) =
          absurd (omega (arith, C.fewest k.entered k.route (k.is ∙ z), steps_count start us es q, steps_count start k.entered ds k.directions))
      go us es C q (inr (inr (z, inr (l, s)))) = inr s

  pub best_iff : (ts : List Tile) → BestTileRoute map efforts start end ts ↔ ((ds : List ℕ) × (Directions start ts ds × BestRoute G (index_in map start) (index_in map end) ds (cost ts)))
  best_iff ts = (λ B. (B.by, (B.directions, best_over ts B)), λ p. from p.0 p.1.0 p.1.1 (in_tiles p.1.1.route))
    where
      from : (ds : List ℕ) → Directions start ts ds → BestRoute G (index_in map start) (index_in map end) ds (cost ts) → TilesOf map small efforts short start end ds (cost ts)
          → BestTileRoute map efforts start end ts
      from ds q B k = subst (BestTileRoute map efforts start end) (same_tiles start k.entered ts ds k.directions q) (best_in_tiles B k)

  -- One route is the best.
  pub one_best : (ts us : List Tile) → BestTileRoute map efforts start end ts → BestTileRoute map efforts start end us → ts ≡ us
  one_best ts us B C =
      let e : B.by ≡ C.by = (best_unique (best_over ts B) (best_over us C)).0 in
      same_tiles start ts us B.by B.directions (rw e C.directions)

  pub one_list : (ts us : List Tile) → BestTiles map efforts start end ts → BestTiles map efforts start end us → ts ≡ us
  one_list ts us B C = B.both_ends ∙ ap (λ (l : List Tile). start ∷ l) (one_best B.entered C.entered B.best C.best) ∙ sym C.both_ends

  -- Where there is a route there is a best one.
  pub some_best : (ts : List Tile) → TileRoute map efforts start end ts → (us : List Tile) × BestTileRoute map efforts start end us
  some_best ts r =
      let q = directed map start ts r.leads.path in
      let b = best_exists (ground_fits map small efforts) (over_ground ts q.0 r q.1) in
      let k = in_tiles b.2.route in
      (k.entered, best_in_tiles b.2 k)
