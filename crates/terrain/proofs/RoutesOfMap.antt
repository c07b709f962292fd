-- The routes over the tiles of a map are the routes over its ground, between the same tiles, with the same cost and the same direction numbers.
use mathlib.Core.Path.{◌≡◌, refl, sym, ap, ap₂, ◌∙◌, subst}
use mathlib.Core.Bool.{true}
use mathlib.Core.List.{List, [], ◌∷◌}
use Prim.Native.Nat.{ℕ, suc, ◌+◌, ◌≤◌, ◌<◌}
use native.Mathlib.Omega.{arith}
use lib.ListN.{length, get_or}
use borrow.Author.Tests.{lt-ltb, ltb-true}
use Rattle.routes.specs.Grounds.{Ground, OpenTile, OpenStep}
use Rattle.routes.specs.Ranks.{Fits}
use Rattle.routes.specs.Routes.{Route, there, first}
use Rattle.routes.proofs.Turning.{route_start}
use Rattle.hexes.specs.Limits.{barred, radius_limit}
use Rattle.hexes.specs.Tiles.{neighbor_of}
use Rattle.hexes.specs.declared.Tile.{Tile}
use Rattle.hexes.proofs.Beside.{Leads, one_apart}
use Rattle.hexes.proofs.Metric.{neighbor_at_one}
use Rattle.storage.specs.Hexmod.{index_in}
use Rattle.storage.specs.Leaves.{near_in}
use Rattle.storage.specs.Maps.{of_map, area_of}
use Rattle.storage.specs.declared.Map.{Map}
use Rattle.storage.proofs.Back.{index_below}
use Rattle.storage.proofs.Maps.{area_small}
use Rattle.storage.proofs.Near.{same_index, tile_of_index, near_on, near_tile}
use Rattle.terrain.specs.GroundOfMap.{ground_of}
use Rattle.terrain.specs.TilePaths.{entry_at, Path}
use Rattle.terrain.specs.TileRoutes.{TileRoute, cost_of, Directions}
use Rattle.terrain.proofs.Totals.{Efforts}
use Rattle.terrain.proofs.Walks.{first_of}

-- Direction numbers tell the tiles, and there are as many as tiles entered.
pub same_tiles : (a : Tile) (ts us : List Tile) (ds : List ℕ) → Directions a ts ds → Directions a us ds → ts ≡ us
same_tiles a [] [] [] p q = refl
same_tiles a [] us (d ∷ ds) p q = absurd p
same_tiles a [] (c ∷ us) [] p q = absurd q
same_tiles a (b ∷ ts) us [] p q = absurd p
same_tiles a (b ∷ ts) [] (d ∷ ds) p q = absurd q
same_tiles a (b ∷ ts) (c ∷ us) (d ∷ ds) p q =
    let e : b ≡ c = sym p.0.1 ∙ q.0.1 in
    ap₂ (λ (x : Tile) (l : List Tile). x ∷ l) e (same_tiles b ts us ds p.1 (rw e q.1))

pub steps_count : (a : Tile) (ts : List Tile) (ds : List ℕ) → Directions a ts ds → length ds ≡ length ts
steps_count a [] [] p = refl
steps_count a [] (d ∷ ds) p = absurd p
steps_count a (b ∷ ts) [] p = absurd p
steps_count a (b ∷ ts) (d ∷ ds) p = ap suc (steps_count b ts ds p.1)

-- The ground of a map is small enough for ranks.
pub ground_fits : (map : Map) → map.radius ≤ radius_limit → (efforts : List ℕ) → Fits (ground_of map efforts)
ground_fits map small efforts = record { tiles = omega (arith, area_small map.radius small); efforts = omega arith }

module _ (map : Map) (small : map.radius ≤ radius_limit) (efforts : List ℕ) (short : Efforts efforts) where
  abbrev G : Ground
  G = ground_of map efforts

  -- A tile is open in both senses.
  open_index : (t : Tile) → (entry_at map efforts t ≡ barred → ⊥) → OpenTile G (index_in map t)
  open_index t o = record { on = index_below map t; is_open = lt-ltb (entry_at map efforts t) barred (omega (arith, short (index_in map t), o)) }

  open_entry : (t : Tile) (i : ℕ) → index_in map t ≡ i → OpenTile G i → entry_at map efforts t ≡ barred → ⊥
  open_entry t i e o z = omega (arith, ltb-true (get_or efforts i 0) barred o.is_open, ap (λ (k : ℕ). get_or efforts k 0) e)

  -- From tiles to indices.
  pub route_of : (a end : Tile) (ts : List Tile) (ds : List ℕ) → TileRoute map efforts a end ts → Directions a ts ds → Route G (index_in map end) (index_in map a) ds (cost_of map efforts a ts)
  route_of a end [] [] r q = rw (← r.leads.ends) (there (open_index a r.begins))
  route_of a end [] (d ∷ ds) r q = absurd q
  route_of a end (b ∷ ts) [] r q = absurd q
  route_of a end (b ∷ ts) (d ∷ ds) r q = first (open_index a r.begins) step (route_of b end ts ds rest q.1)
    where
      rest : TileRoute map efforts b end ts
      rest = record { leads = record { path = r.leads.path.1.1; ends = r.leads.ends; opens = r.leads.opens.1 }; begins = r.leads.opens.0 }

      on : of_map map (neighbor_of a d) ≡ true
      on = ap (of_map map) q.0.1 ∙ first_of map b ts rest.leads.path

      step : OpenStep G (index_in map a) d (index_in map b) (entry_at map efforts b)
      step =
          record {
            dir = q.0.0;
            leads = near_on map a d r.leads.path.0 on ∙ ap (index_in map) q.0.1;
            price = refl;
            unbarred = omega (arith, short (index_in map b), rest.begins);
          }

  -- From indices to tiles.
  pub record TilesOf (a end : Tile) (ds : List ℕ) (cost : ℕ) : Type 0 where
    pub entered : List Tile
    pub route : TileRoute map efforts a end entered
    pub directions : Directions a entered ds
    pub is : cost_of map efforts a entered ≡ cost

  next_on : (a : Tile) (d : ℕ) → of_map map a ≡ true → near_in map (index_in map a) d < area_of map.radius → of_map map (neighbor_of a d) ≡ true
  next_on a d h l = subst (λ (t : Tile). of_map map (neighbor_of t d) ≡ true) (tile_of_index map a h) (near_tile map small (index_in map a) d (index_below map a) l)

  pub tiles_from_lem : (end : Tile) → of_map map end ≡ true → {e u v : ℕ} {ds : List ℕ} (a : Tile) → of_map map a ≡ true → index_in map end ≡ e → index_in map a ≡ u → Route G e u ds v → TilesOf a end ds v
  tiles_from_lem end he a ha ee ea (there o) =
      record {
        entered = [];
        route = record { leads = record { path = ha; ends = same_index map a end ha he (ea ∙ sym ee); opens = tt }; begins = open_entry a _ ea o };
        directions = tt;
        is = refl;
      }
  tiles_from_lem end he a ha ee ea (first {u = u} {d = d} {t = t} {w = w} {v = v} o st r) =
      let near : near_in map (index_in map a) d ≡ t = ap (λ (i : ℕ). near_in map i d) ea ∙ st.leads in
      let b : Tile = neighbor_of a d in
      let hb : of_map map b ≡ true = next_on a d ha (omega (arith, near, (route_start r).on)) in
      let eb : index_in map b ≡ t = sym (near_on map a d ha hb) ∙ near in
      let k = tiles_from_lem end he b hb ee eb r in
      record {
        entered = b ∷ k.entered;
        route =
            record {
              leads = record { path = (ha, (neighbor_at_one a d, k.route.leads.path)); ends = k.route.leads.ends; opens = (k.route.begins, k.route.leads.opens) };
              begins = open_entry a u ea o;
            };
        directions = ((st.dir, refl), k.directions);
        is = ap₂ (λ (x y : ℕ). x + y) (ap (λ (i : ℕ). get_or efforts i 0) eb ∙ st.price) k.is;
      }

-- Every path has direction numbers.
pub directed : (map : Map) (a : Tile) (ts : List Tile) → Path map a ts → (ds : List ℕ) × Directions a ts ds
directed map a [] p = ([], tt)
directed map a (b ∷ ts) p =
    let l : Leads a b = one_apart a b p.1.0 in
    let q = directed map b ts p.1.1 in
    (l.d ∷ q.0, ((l.low, l.to), q.1))
