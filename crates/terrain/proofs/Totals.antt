-- The table of least sums, in tiles, is the right table over the land of the map; and there is one.
use mathlib.Core.Path.{◌≡◌}
use mathlib.Core.Bool.{true}
use mathlib.Core.Logic.{◌↔◌}
use mathlib.Core.List.{List}
use Prim.Native.Nat.{ℕ, ◌+◌, ◌*◌, ◌-◌, ◌≤◌, ◌<◌}
use native.Mathlib.Nat.{mul-le-mul_right}
use native.Mathlib.Decide.{ℕ_discrete, dec_lt}
use native.Mathlib.Omega.{arith}
use lib.ListN.{length, get_or}
use Rattle.paths.specs.Lands.{Walk, Least}
use Rattle.paths.specs.Tables.{at, Right, Plain, Capped}
use Rattle.paths.proofs.PlainWords.{right_iff_plain, right_lists}
use Rattle.hexes.specs.Limits.{barred, no_way, radius_limit}
use Rattle.hexes.specs.declared.Tile.{Tile}
use Rattle.storage.specs.Hexmod.{index_in}
use Rattle.storage.specs.Leaves.{tile_at_index}
use Rattle.storage.specs.Maps.{of_map, area_of}
use Rattle.storage.specs.declared.Map.{Map}
use Rattle.storage.proofs.Back.{index_below, tile_of_map, tile_has_index}
use Rattle.storage.proofs.Maps.{area_small}
use Rattle.terrain.specs.TilePaths.{entry_at, LeastSum, LeastTotals}
use Rattle.terrain.specs.LandOfMap.{price_of, land_of}
use Rattle.terrain.proofs.Walks.{price_barred, price_open, least_walk, least_path}

-- The efforts are unsigned 16-bit numbers.
abbrev pub Efforts : List ℕ → Type 0
Efforts efforts = (i : ℕ) → get_or efforts i 0 ≤ barred

module _ (map : Map) (small : map.radius ≤ radius_limit) (efforts : List ℕ) (short : Efforts efforts) where
  -- No step costs more than 65535, so no least sum comes near a mark of this size.
  pub capped : (mark : ℕ) → Capped (land_of map efforts mark) barred
  capped mark = record { cap = λ u d t w st. go t w st.price (ℕ_discrete (get_or efforts t 0) barred) }
    where
      go : (t w : ℕ) → price_of (get_or efforts t 0) ≡ w → Dec (get_or efforts t 0 ≡ barred) → w ≤ barred
      go t w p (yes e) = omega (arith, price_barred (get_or efforts t 0) e)
      go t w p (no n) = omega (arith, price_open (get_or efforts t 0) n, short t)

  pub sums_below : (mark : ℕ) → 3 * radius_limit * (radius_limit + 1) * barred < mark → (area_of map.radius - 1) * barred < mark
  sums_below mark h = omega (arith, mul-le-mul_right {m = area_of map.radius - 1} {n = 3 * radius_limit * (radius_limit + 1)} barred (omega (arith, area_small map.radius small)))

  right_is_plain : (T : ℕ → ℕ) (i b : ℕ) → i < area_of map.radius → Right (land_of map efforts no_way) T i b ↔ Plain (land_of map efforts no_way) T i b
  right_is_plain T i b h = right_iff_plain (land_of map efforts no_way) T i b barred h (capped no_way) (sums_below no_way (omega arith))

  module _ (start : Tile) (on : of_map map start ≡ true) (budget : ℕ) (totals : List ℕ) where
    pub totals_right : LeastTotals map efforts start budget totals → Right (land_of map efforts no_way) (at totals) (index_in map start) budget
    totals_right L = (right_is_plain (at totals) (index_in map start) budget (index_below map start)).1 (record { near = near; far = far })
      where
        near : (i : ℕ) → i < area_of map.radius → (v : ℕ) → Least (land_of map efforts no_way) (index_in map start) i v → v ≤ budget → at totals i ≡ v
        near i h v l k =
            let e = tile_has_index map i h in
            let l' : Least (land_of map efforts no_way) (index_in map start) (index_in map (tile_at_index map i)) v = rw e l in
            rw e at (L.within (tile_at_index map i) (tile_of_map map i h) v (least_path map small efforts no_way start (tile_at_index map i) on (tile_of_map map i h) v l') k)

        far : (i : ℕ) → i < area_of map.radius → ((ds : List ℕ) (x : ℕ) → Walk (land_of map efforts no_way) (index_in map start) ds i x → budget < x) → at totals i ≡ no_way
        far i h f =
            let e = tile_has_index map i h in
            rw e at
            (L.otherwise (tile_at_index map i) (tile_of_map map i h)
            (λ v l.
            let k : Least (land_of map efforts no_way) (index_in map start) i v = rw e at (least_walk map small efforts no_way start (tile_at_index map i) on (tile_of_map map i h) v l) in
            f k.dirs v k.path))

    pub right_totals : length totals ≡ area_of map.radius → Right (land_of map efforts no_way) (at totals) (index_in map start) budget → LeastTotals map efforts start budget totals
    right_totals e R =
        record {
          size = e;
          within =
              λ t ht v l k.
              ((right_is_plain (at totals) (index_in map start) budget (index_below map start)).0 R).near (index_in map t) (index_below map t) v
              (least_walk map small efforts no_way start t on ht v l) k;
          otherwise = λ t ht f. go t ht f (dec_lt (entry_at map totals t) no_way);
        }
      where
        go : (t : Tile) → of_map map t ≡ true → ((v : ℕ) → LeastSum map efforts start t v → budget < v) → Dec (entry_at map totals t < no_way) → entry_at map totals t ≡ no_way
        go t ht f (yes l) =
            let q = R.found (index_in map t) (index_below map t) l in
            absurd (omega (arith, q.1, f (entry_at map totals t) (least_path map small efforts no_way start t on ht (entry_at map totals t) q.0)))
        go t ht f (no l) = (R.missed (index_in map t) (index_below map t) (omega arith)).0

    pub totals_iff_right : LeastTotals map efforts start budget totals ↔ ((length totals ≡ area_of map.radius) × Right (land_of map efforts no_way) (at totals) (index_in map start) budget)
    totals_iff_right = (λ L. (L.size, totals_right L), λ z. right_totals z.0 z.1)

  -- Two tables of least sums are equal.
  pub one_totals : (start : Tile) → of_map map start ≡ true → (budget : ℕ) (totals totals' : List ℕ) → LeastTotals map efforts start budget totals → LeastTotals map efforts start budget totals' → totals ≡ totals'
  one_totals start on budget totals totals' L L' =
      right_lists (land_of map efforts no_way) totals totals' (index_in map start) budget L.size L'.size (totals_right start on budget totals L) (totals_right start on budget totals' L')
