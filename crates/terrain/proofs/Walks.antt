-- The paths over the tiles of a map and the walks of its land have the same sums between the same tiles.
use mathlib.Core.Path.{◌≡◌, refl, sym, ap, ap₂, ◌∙◌}
use mathlib.Core.Bool.{Bool, true, cond}
use mathlib.Core.List.{List, [], ◌∷◌, reverse_aux}
use Prim.Native.Nat.{ℕ, ◌+◌, ◌≤◌, ◌<◌}
use native.Mathlib.Nat.{add-zero, zero-add}
use native.Mathlib.Omega.{arith}
use lib.ListN.{get_or}
use borrow.Author.Tests.{eq-eqb, ne_eqb}
use Rattle.paths.specs.Lands.{Land, Step, Walk, here, Least}
use Rattle.paths.proofs.Fronts.{Route, there, first, onto, unroll}
use Rattle.hexes.specs.Limits.{barred, radius_limit}
use Rattle.hexes.specs.Tiles.{distance_of}
use Rattle.hexes.specs.declared.Tile.{Tile}
use Rattle.hexes.proofs.Metric.{symmetric}
use Rattle.storage.specs.Hexmod.{index_in}
use Rattle.storage.specs.Leaves.{near_in, tile_at_index}
use Rattle.storage.specs.Maps.{of_map, area_of}
use Rattle.storage.specs.declared.Map.{Map}
use Rattle.storage.proofs.Back.{index_below, tile_of_map, tile_has_index}
use Rattle.storage.proofs.Near.{same_index, near_apart, apart_near, near_back}
use Rattle.terrain.specs.TilePaths.{entry_at, Path, last_of, OnlyOpen, sum_of, Leading, LeastSum}
use Rattle.terrain.specs.LandOfMap.{price_of, against, land_of}

-- What a step costs, by whether the tile is barred.
pub price_barred : (effort : ℕ) → effort ≡ barred → price_of effort ≡ 0
unfolding price_of
price_barred effort h = ap (λ (t : Bool). cond t 0 (effort + 1)) (eq-eqb effort barred h)

pub price_open : (effort : ℕ) → (effort ≡ barred → ⊥) → price_of effort ≡ effort + 1
unfolding price_of
price_open effort h = ap (λ (t : Bool). cond t 0 (effort + 1)) (ne_eqb effort barred h)

pub against_twice : (d : ℕ) → d < 6 → against (against d) ≡ d
against_twice d h = omega arith

-- A path's first tile is of the map.
pub first_of : (map : Map) (a : Tile) (ts : List Tile) → Path map a ts → of_map map a ≡ true
first_of map a [] p = p
first_of map a (b ∷ ts) p = p.0

module _ (map : Map) (small : map.radius ≤ radius_limit) (efforts : List ℕ) (mark : ℕ) where
  abbrev G : Land
  G = land_of map efforts mark

  -- The step between two tiles at distance 1, the second open, is a step of the land.
  pub step_of_lem : (a b : Tile) → of_map map a ≡ true → of_map map b ≡ true → distance_of a b ≡ 1 → (entry_at map efforts b ≡ barred → ⊥) → (d : ℕ) × Step G (index_in map a) d (index_in map b) (entry_at map efforts b + 1)
  step_of_lem a b p q e o =
      let l = apart_near map small a b p q e in
      let below : near_in map (index_in map a) l.0 < area_of map.radius = omega (arith, l.1.1, index_below map b) in (
        l.0,
        record {
          into = index_below map b;
          dir = l.1.0;
          from = ap (λ (j : ℕ). near_in map j (against l.0)) (sym l.1.1) ∙ near_back map small (index_in map a) l.0 (index_below map a) below;
          on = index_below map a;
          price = price_open (entry_at map efforts b) o;
          paid = omega arith;
        },
      )

  -- From a path to a walk, told from its start.
  pub route_of : (a t : Tile) (ts : List Tile) → Path map a ts → last_of a ts ≡ t → OnlyOpen map efforts a ts → (ds : List ℕ) × Route G (index_in map t) (index_in map a) ds (sum_of map efforts a ts)
  route_of a t [] p e o = ([], rw e there)
  route_of a t (b ∷ ts) p e o =
      let q = route_of b t ts p.1.1 e o.1 in
      let s = step_of_lem a b p.0 (first_of map b ts p.1.1) p.1.0 o.0 in
      (s.0 ∷ q.0, first s.1 q.1)

  -- A path with a given sum.
  pub record PathOf (a t : Tile) (sum : ℕ) : Type 0 where
    pub by : List Tile
    pub leads : Leading map efforts a t by
    pub is : sum_of map efforts a by ≡ sum

  -- From a walk to a path.
  path_from : (t : Tile) → of_map map t ≡ true → {e u v : ℕ} {ds : List ℕ} (a : Tile) → of_map map a ≡ true → index_in map t ≡ e → index_in map a ≡ u → Route G e u ds v → PathOf a t v
  path_from t ht a ha et ea there = record { by = []; leads = record { path = ha; ends = same_index map a t ha ht (ea ∙ sym et); opens = tt }; is = refl }
  path_from t ht a ha et ea (first {u = u} {d = d} {x = x} {w = w} {v = v} st r) =
      let b = tile_at_index map x in
      let hb = tile_of_map map x st.into in
      let eb = tile_has_index map x st.into in
      let k = path_from t ht b hb et eb r in
      let ee : entry_at map efforts b ≡ get_or efforts x 0 = ap (λ (i : ℕ). get_or efforts i 0) eb in
      let o : entry_at map efforts b ≡ barred → ⊥ = λ z. omega (arith, st.price, st.paid, price_barred (get_or efforts x 0) (sym ee ∙ z)) in
      let ew : entry_at map efforts b + 1 ≡ w = ap (λ (e : ℕ). e + 1) ee ∙ sym (price_open (get_or efforts x 0) (λ z. o (ee ∙ z))) ∙ st.price in
      let apart : distance_of b a ≡ 1 = near_apart map small b a (against d) hb ha (ap (λ (i : ℕ). near_in map i (against d)) eb ∙ st.from ∙ sym ea) in
      record {
        by = b ∷ k.by;
        leads = record { path = (ha, (symmetric a b ∙ apart, k.leads.path)); ends = k.leads.ends; opens = (o, k.leads.opens) };
        is = ap₂ (λ (x y : ℕ). x + y) ew k.is;
      }

  -- The two have the same sums.
  pub walk_of : (s t : Tile) (ts : List Tile) → Leading map efforts s t ts → (ds : List ℕ) × Walk G (index_in map s) ds (index_in map t) (sum_of map efforts s ts)
  walk_of s t ts p =
      let r = route_of s t ts p.path p.ends p.opens in
      (reverse_aux r.0 [], rw zero-add at (onto here r.1))

  pub path_of : (s t : Tile) → of_map map s ≡ true → of_map map t ≡ true → {ds : List ℕ} {v : ℕ} → Walk G (index_in map s) ds (index_in map t) v → PathOf s t v
  path_of s t hs ht p = path_from t ht s hs refl refl (rw add-zero at (unroll p there))

  -- So a least sum of paths is a least sum of walks, and the other way round.
  pub least_walk : (s t : Tile) → of_map map s ≡ true → of_map map t ≡ true → (v : ℕ) → LeastSum map efforts s t v → Least G (index_in map s) (index_in map t) v
  least_walk s t hs ht v l =
      let w = walk_of s t l.by l.leads in
      record { dirs = w.0; path = rw l.is at w.1; least = λ ds x p. let k = path_of s t hs ht p in omega (arith, l.at_most k.by k.leads, k.is) }

  pub least_path : (s t : Tile) → of_map map s ≡ true → of_map map t ≡ true → (v : ℕ) → Least G (index_in map s) (index_in map t) v → LeastSum map efforts s t v
  least_path s t hs ht v l =
      let k = path_of s t hs ht l.path in
      record { by = k.by; leads = k.leads; is = k.is; at_most = λ ts p. let w = walk_of s t ts p in l.least w.0 (sum_of map efforts s ts) w.1 }
