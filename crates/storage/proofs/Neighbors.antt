-- Laws of neighbours by index. Each index has something told of its neighbour, and one thing; going on in the opposite direction leads back; a neighbour is at distance 1,
-- and what is at distance 1 is a neighbour.
use mathlib.Core.Path.{◌≡◌, refl, sym, ap, ◌∙◌, subst}
use mathlib.Core.Bool.{Bool, true, false}
use mathlib.Core.List.{List}
use Prim.Native.Nat.{ℕ, zero, suc, ◌+◌, ◌%◌, ◌<◌}
use native.Mathlib.Decide.{dec_lt}
use native.Mathlib.Omega.{arith}
use lib.ListN.{length, get_or}
use lib.Seq.{ext_get_or}
use Rattle.std.specs.Prelude.{Option, None}
use Rattle.std.specs.Option.{ok_or}
use Rattle.hexes.specs.Answers.{Told, accepted, refused, refused_tile}
use Rattle.hexes.specs.Refusals.{not_of_map}
use Rattle.hexes.specs.Tiles.{neighbor_of, distance_of}
use Rattle.hexes.specs.declared.Tile.{Tile}
use Rattle.hexes.specs.declared.refusal.Refusal.{Refusal}
use Rattle.hexes.proofs.Beside.{one_apart, six_neighbors}
use Rattle.hexes.proofs.Metric.{neighbor_at_one}
use Rattle.hexes.proofs.Tells.{One}
use Rattle.hexes.proofs.Turning.{opposite_leads_back}
use Rattle.storage.specs.Hexmod.{index, index_of, IndexTells, to_hexmod, FromHexmod}
use Rattle.storage.specs.Leaves.{beside_at, tile_at_index}
use Rattle.storage.specs.Maps.{map_refusal, of_map, area_of}
use Rattle.storage.specs.Neighbors.{Neighbor, entry_of, SixNeighbors}
use Rattle.storage.specs.declared.Index.{Index}
use Rattle.storage.specs.declared.Map.{Map}
use Rattle.storage.proofs.Back.{one_index, the_tile_of, no_tile_of}
use Rattle.storage.proofs.Besides.{at_off, at_on}
use Rattle.storage.proofs.Ending.{from_fine, from_found, from_one, to_outside, to_found}
use Rattle.storage.proofs.RoundTrip.{index_there_and_back}

module _ (map : Map) (i : Index) where
  -- The way back tells one thing.
  pub one_told : One (FromHexmod map i)
  one_told = from_one map (index_of map) (one_index map) i

  not_both : (t : Tile) (n : ℕ) → 0 < n → FromHexmod map i (accepted t) → FromHexmod map i (refused_tile n) → ⊥
  unfolding One
  not_both t n l p q = let k : 0 ≡ n = ap (λ (v : Told Tile). v.number) (one_told _ _ p q) in omega arith

  -- What the way back tells: a tile, or a refusal.
  data Back : Type 0 where
    to : (t : Tile) → FromHexmod map i (accepted t) → Back
    lost : (n : ℕ) → 0 < n → FromHexmod map i (refused_tile n) → Back

  back : Back
  back = go (map_refusal map) refl (dec_lt i.0 (area_of map.radius))
    where
      go : (n : ℕ) → map_refusal map ≡ n → Dec (i.0 < area_of map.radius) → Back
      go zero e (yes h) = to (tile_at_index map i.0) (from_fine map (index_of map) i e (the_tile_of map i h _ refl))
      go zero e (no h) = lost not_of_map (omega arith) (from_fine map (index_of map) i e (no_tile_of map i (omega arith)))
      go (suc n) e h =
          lost (suc n) (omega arith) (record { map_fine = λ z. absurd (omega arith); map_refused = λ l. ap refused_tile (sym e) })

  module _ (d : ℕ) where
    pub neighbor_found : (t : Tile) → FromHexmod map i (accepted t) → (told : Told Index) → told ≡ to_hexmod map (neighbor_of t d) → Neighbor map i d told
    unfolding One
    neighbor_found t h told e =
        record {
          leads = λ s k. e ∙ ap (λ (v : Told Tile). to_hexmod map (neighbor_of v.value d)) (one_told _ _ h k);
          lost = λ n l k. absurd (not_both t n l h k);
        }

    pub neighbor_lost : (n : ℕ) → 0 < n → FromHexmod map i (refused_tile n) → Neighbor map i d (refused (index 0) n)
    unfolding One
    neighbor_lost n l h =
        record {
          leads = λ t k. absurd (not_both t n l k h);
          lost = λ m k q. ap (λ (v : Told Tile). refused (index 0) v.number) (one_told _ _ h q);
        }

    pub some_neighbor : (told : Told Index) × Neighbor map i d told
    some_neighbor = go back
      where
        go : Back → (told : Told Index) × Neighbor map i d told
        go (to t h) = (to_hexmod map (neighbor_of t d), neighbor_found t h _ refl)
        go (lost n l h) = (refused (index 0) n, neighbor_lost n l h)

    pub one_neighbor : One (Neighbor map i d)
    unfolding One
    one_neighbor v w p q = go back
      where
        go : Back → v ≡ w
        go (to t h) = p.leads t h ∙ sym (q.leads t h)
        go (lost n l h) = p.lost n l h ∙ sym (q.lost n l h)

  -- Direction numbers count modulo 6, so an index has at most six neighbours.
  pub at_most_six : (d : ℕ) (told : Told Index) → Neighbor map i d told → Neighbor map i (d % 6) told
  at_most_six d told h = record { leads = λ t k. h.leads t k ∙ ap (to_hexmod map) (sym (six_neighbors t d)); lost = h.lost }

-- The tiles of an index and of its neighbour.
pub record Tiles (map : Map) (i j : Index) (d : ℕ) : Type 0 where
  pub tile : Tile
  pub from : FromHexmod map i (accepted tile)
  pub to : FromHexmod map j (accepted (neighbor_of tile d))

pub tiles_of_lem : (map : Map) (i j : Index) (d : ℕ) → Neighbor map i d (accepted j) → Tiles map i j d
tiles_of_lem map i j d h = go (back map i)
  where
    go : Back map i → Tiles map i j d
    go (to t k) = record { tile = t; from = k; to = (index_there_and_back map (neighbor_of t d) j).0 (sym (h.leads t k)) }
    go (lost n l k) = let z : 0 ≡ n = ap (λ (v : Told Index). v.number) (h.lost n l k) in absurd (omega arith)

pub opposite_back : (map : Map) (i j : Index) (d : ℕ) → Neighbor map i d (accepted j) → Neighbor map j (d + 3) (accepted i)
opposite_back map i j d h =
    let t = tiles_of_lem map i j d h in
    neighbor_found map j (d + 3) (neighbor_of t.tile d) t.to (accepted i)
    (sym ((index_there_and_back map t.tile i).1 t.from) ∙ ap (to_hexmod map) (sym (opposite_leads_back t.tile d)))

pub at_distance_one : (map : Map) (i j : Index) (d : ℕ) → Neighbor map i d (accepted j) → (s t : Tile) → FromHexmod map i (accepted s) → FromHexmod map j (accepted t) → distance_of s t ≡ 1
unfolding One
at_distance_one map i j d h s t p q =
    let k = tiles_of_lem map i j d h in
    let es : k.tile ≡ s = ap (λ (v : Told Tile). v.value) (one_told map i _ _ k.from p) in
    let et : neighbor_of k.tile d ≡ t = ap (λ (v : Told Tile). v.value) (one_told map j _ _ k.to q) in
    rw (sym es, sym et) (neighbor_at_one k.tile d)

pub of_distance_one : (map : Map) (i j : Index) (s t : Tile) → FromHexmod map i (accepted s) → FromHexmod map j (accepted t) → distance_of s t ≡ 1 → (d : ℕ) × ((d < 6) × Neighbor map i d (accepted j))
of_distance_one map i j s t p q e =
    let l = one_apart s t e in
    (l.d, (l.low, neighbor_found map i l.d s p (accepted j) (sym ((index_there_and_back map t j).1 q) ∙ ap (to_hexmod map) (sym l.to))))

-- An entry beside a tile is what is told of its neighbour.
pub entry_of_beside : (map : Map) (t : Tile) (d : ℕ) → map_refusal map ≡ 0 → beside_at map t d ≡ entry_of (to_hexmod map (neighbor_of t d))
entry_of_beside map t d z = go (of_map map (neighbor_of t d)) refl
  where
    go : (b : Bool) → of_map map (neighbor_of t d) ≡ b → beside_at map t d ≡ entry_of (to_hexmod map (neighbor_of t d))
    go true o = sym (at_on map t d o) ∙ ap entry_of (to_found (index 0) map (neighbor_of t d) (index_of map (neighbor_of t d)) z o _ refl)
    go false o = sym (at_off map t d o) ∙ ap entry_of (to_outside (index 0) map (neighbor_of t d) (index_of map (neighbor_of t d)) z o)

-- The entry beside a tile, as the answer of a call, is what is told of its neighbour.
pub beside_told : (map : Map) (t : Tile) (d : ℕ) → map_refusal map ≡ 0 → IndexTells (ok_or (beside_at map t d) Refusal.NotOfMap) (λ told. told ≡ to_hexmod map (neighbor_of t d))
beside_told map t d z = go (of_map map (neighbor_of t d)) refl
  where
    go : (b : Bool) → of_map map (neighbor_of t d) ≡ b → IndexTells (ok_or (beside_at map t d) Refusal.NotOfMap) (λ told. told ≡ to_hexmod map (neighbor_of t d))
    go true o = subst (λ (e : Option Index). IndexTells (ok_or e Refusal.NotOfMap) (λ told. told ≡ to_hexmod map (neighbor_of t d))) (at_on map t d o) (to_found (index 0) map (neighbor_of t d) (index_of map (neighbor_of t d)) z o _ refl)
    go false o = subst (λ (e : Option Index). IndexTells (ok_or e Refusal.NotOfMap) (λ told. told ≡ to_hexmod map (neighbor_of t d))) (at_off map t d o) (to_outside (index 0) map (neighbor_of t d) (index_of map (neighbor_of t d)) z o)

-- All six at once, where the way back tells a tile.
module _ (map : Map) (i : Index) where
  pub six_found : (t : Tile) → FromHexmod map i (accepted t) → (entries : List (Option Index)) → length entries ≡ 6 → ((d : ℕ) → d < 6 → get_or entries d None ≡ beside_at map t d) → SixNeighbors map i entries
  six_found t h entries e f =
      record { six = e; each = λ d k told p. f d k ∙ entry_of_beside map t d (from_found map (index_of map) i t h).0 ∙ sym (ap entry_of (p.leads t h)) }

  pub one_six : (r s : List (Option Index)) → SixNeighbors map i r → SixNeighbors map i s → r ≡ s
  one_six r s p q =
      ext_get_or None r s (p.six ∙ sym q.six)
      (λ d h. let n = some_neighbor map i d in p.each d (omega (arith, p.six)) n.0 n.1 ∙ sym (q.each d (omega (arith, p.six)) n.0 n.1))
