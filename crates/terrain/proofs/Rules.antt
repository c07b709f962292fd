-- The neighbour rule at a tile is the theory's rule at its index.
use mathlib.Core.Path.{◌≡◌, refl, sym, ap, ap₂, ◌∙◌}
use mathlib.Core.Bool.{true}
use mathlib.Core.List.{List}
use Prim.Native.Nat.{ℕ, ◌+◌, ◌≤◌, ◌<◌}
use native.Mathlib.Decide.{ℕ_discrete, dec_lt, dec_le}
use native.Mathlib.Omega.{arith}
use Rattle.paths.specs.Lands.{Land, Step}
use Rattle.paths.specs.NeighborRule.{best, want}
use Rattle.paths.specs.Tables.{at}
use Rattle.paths.proofs.Offers.{best_le, best_offer, maker, want_home, want_in, want_out}
use Rattle.hexes.specs.Limits.{barred, no_way, radius_limit}
use Rattle.hexes.specs.Tiles.{distance_of}
use Rattle.hexes.specs.declared.Tile.{Tile}
use Rattle.storage.specs.Hexmod.{index_in}
use Rattle.storage.specs.Leaves.{near_in, tile_at_index}
use Rattle.storage.specs.Maps.{of_map}
use Rattle.storage.specs.declared.Map.{Map}
use Rattle.storage.proofs.Back.{index_below, tile_of_map, tile_has_index}
use Rattle.storage.proofs.Near.{same_index, near_apart, apart_near}
use Rattle.terrain.specs.TilePaths.{entry_at}
use Rattle.terrain.specs.NeighborRule.{Smallest, Keeps}
use Rattle.terrain.specs.LandOfMap.{against, land_of}
use Rattle.terrain.proofs.Walks.{price_barred, price_open, against_twice}

-- What is given: a start of the map, and a table whose entries, like the budget, are unsigned 32-bit numbers.
module _ (map : Map) (small : map.radius ≤ radius_limit) (efforts : List ℕ) (start : Tile) (on : of_map map start ≡ true) (budget : ℕ) (totals : List ℕ) (fits : (i : ℕ) → at totals i ≤ no_way) where
  abbrev G : Land
  G = land_of map efforts no_way

  module _ (t : Tile) (here : of_map map t ≡ true) where
    offered : ℕ
    offered = best G (at totals) (index_in map t) 6

    wanted : ℕ
    wanted = want G (at totals) (index_in map start) budget (index_in map t)

    -- Each neighbour of an open tile offers it a step, and none offers less than the best.
    step_into : (u : Tile) → of_map map u ≡ true → distance_of t u ≡ 1 → (entry_at map efforts t ≡ barred → ⊥) → (d : ℕ) × Step G (index_in map u) d (index_in map t) (entry_at map efforts t + 1)
    step_into u hu e o =
        let l = apart_near map small t u here hu e in (
          against l.0,
          record {
            into = index_below map t;
            dir = omega arith;
            from = ap (near_in map (index_in map t)) (against_twice l.0 l.1.0) ∙ l.1.1;
            on = index_below map u;
            price = price_open (entry_at map efforts t) o;
            paid = omega arith;
          },
        )

    at_least : (u : Tile) → of_map map u ≡ true → distance_of t u ≡ 1 → (entry_at map efforts t ≡ barred → ⊥) → offered ≤ entry_at map totals u + (entry_at map efforts t + 1)
    unfolding offered
    at_least u hu e o =
        let k = step_into u hu e o in
        best_offer G (at totals) (index_in map t) 6 (index_in map u) k.0 (entry_at map efforts t + 1) k.1.dir k.1

    -- The neighbour that makes the best offer, where that is below the mark.
    record Offers : Type 0 where
      of : Tile
      of_on : of_map map of ≡ true
      beside : distance_of t of ≡ 1
      free : entry_at map efforts t ≡ barred → ⊥
      is : offered ≡ entry_at map totals of + (entry_at map efforts t + 1)

    offers : offered < no_way → Offers
    unfolding offered
    offers h =
        let k = maker G (at totals) (index_in map t) 6 h in
        let st = k.step (index_below map t) k.below in
        let e = tile_has_index map k.u st.on in
        let o : entry_at map efforts t ≡ barred → ⊥ = λ z. omega (arith, st.price, st.paid, price_barred (entry_at map efforts t) z) in
        record {
          of = tile_at_index map k.u;
          of_on = tile_of_map map k.u st.on;
          beside = near_apart map small t (tile_at_index map k.u) (against k.d) here (tile_of_map map k.u st.on) (st.from ∙ sym e);
          free = o;
          is = k.makes ∙ ap₂ (λ (x y : ℕ). x + y) (ap (at totals) (sym e)) (sym st.price ∙ price_open (entry_at map efforts t) o);
        }

    smallest_of : (k : Offers) → offered < no_way → Smallest map totals t (entry_at map totals k.of)
    smallest_of k h =
        record {
          of = k.of;
          on = k.of_on;
          beside = k.beside;
          is = refl;
          reached = λ z. omega (arith, k.is);
          at_most = λ u hu e n. omega (arith, k.is, at_least u hu e k.free);
        }

    -- The smallest entry and effort + 1, within the budget, is the best offer.
    smallest_offers : (x : ℕ) → (entry_at map efforts t ≡ barred → ⊥) → Smallest map totals t x → x + (entry_at map efforts t + 1) ≤ budget → budget ≤ no_way → offered ≡ x + (entry_at map efforts t + 1)
    unfolding offered
    smallest_offers x o S l top = go (dec_lt offered no_way)
      where
        low : offered ≤ entry_at map totals S.of + (entry_at map efforts t + 1)
        low = at_least S.of S.on S.beside o

        go : Dec (offered < no_way) → offered ≡ x + (entry_at map efforts t + 1)
        go (yes h) =
            let k = offers h in
            omega (arith, low, S.is, k.is, S.at_most k.of k.of_on k.beside (λ z. omega (arith, k.is)))
        go (no h) = omega (arith, low, S.is, best_le G (at totals) (index_in map t) 6)

    -- What the rule wants: 0 at the start, the best offer if it is within the budget, and the mark otherwise.
    apart : (t ≡ start → ⊥) → index_in map t ≡ index_in map start → ⊥
    apart n e = n (same_index map t start here on e)

    wants_home : t ≡ start → wanted ≡ 0
    unfolding wanted
    wants_home e = want_home G (at totals) (index_in map start) budget (index_in map t) (ap (index_in map) e)

    wants_offer : (t ≡ start → ⊥) → offered ≤ budget → wanted ≡ offered
    unfolding offered wanted
    wants_offer n l = want_in G (at totals) (index_in map start) budget (index_in map t) (apart n) l

    wants_none : (t ≡ start → ⊥) → (offered < no_way → offered ≤ budget → ⊥) → wanted ≡ no_way
    unfolding offered wanted
    wants_none n f = go (dec_le offered budget) (dec_lt offered no_way)
      where
        go : Dec (offered ≤ budget) → Dec (offered < no_way) → wanted ≡ no_way
        go (yes l) (yes k) = absurd (f k l)
        go (yes l) (no k) = wants_offer n l ∙ omega (arith, best_le G (at totals) (index_in map t) 6)
        go (no l) k = want_out G (at totals) (index_in map start) budget (index_in map t) (apart n) (omega arith)

    -- The two rules agree.
    module _ (top : budget ≤ no_way) where
      pub of_keeps : Keeps map efforts start budget totals t → entry_at map totals t ≡ want G (at totals) (index_in map start) budget (index_in map t)
      unfolding wanted
      of_keeps K = go (ℕ_discrete (index_in map t) (index_in map start)) (ℕ_discrete (entry_at map efforts t) barred) (dec_lt offered no_way) (dec_le offered budget)
        where
          -- Where no offer is good, no smallest entry is within the budget.
          beyond : (t ≡ start → ⊥) → (o : entry_at map efforts t ≡ barred → ⊥) → (offered < no_way → offered ≤ budget → ⊥) → (entry_at map totals t ≡ no_way → ⊥) → (x : ℕ) → Smallest map totals t x → Dec (x + (entry_at map efforts t + 1) ≤ budget) → budget < x + (entry_at map efforts t + 1)
          beyond n o f z x S (yes l) =
              let q = smallest_offers x o S l top in
              let e = K.within n o x S l in
              absurd (f (below (ℕ_discrete offered no_way) (e ∙ sym q)) (omega arith))
            where
              below : Dec (offered ≡ no_way) → entry_at map totals t ≡ offered → offered < no_way
              below (yes p) e = absurd (z (e ∙ p))
              below (no p) e = omega (arith, fits (index_in map t))
          beyond n o f z x S (no l) = omega arith

          none : (t ≡ start → ⊥) → (entry_at map efforts t ≡ barred → ⊥) → (offered < no_way → offered ≤ budget → ⊥) → Dec (entry_at map totals t ≡ no_way) → entry_at map totals t ≡ no_way
          none n o f (yes z) = z
          none n o f (no z) = K.otherwise n o (λ x S. beyond n o f z x S (dec_le (x + (entry_at map efforts t + 1)) budget))

          go : Dec (index_in map t ≡ index_in map start) → Dec (entry_at map efforts t ≡ barred) → Dec (offered < no_way) → Dec (offered ≤ budget) → entry_at map totals t ≡ wanted
          go (yes e) p q r = let z = same_index map t start here on e in K.home z ∙ sym (wants_home z)
          go (no e) (yes p) q r =
              let n : t ≡ start → ⊥ = λ z. e (ap (index_in map) z) in
              K.shut n p ∙ sym (wants_none n (λ h l. (offers h).free p))
          go (no e) (no p) (yes q) (yes r) =
              let n : t ≡ start → ⊥ = λ z. e (ap (index_in map) z) in
              let k = offers q in
              K.within n p (entry_at map totals k.of) (smallest_of k q) (omega (arith, k.is)) ∙ sym k.is ∙ sym (wants_offer n r)
          go (no e) (no p) (yes q) (no r) =
              let n : t ≡ start → ⊥ = λ z. e (ap (index_in map) z) in
              none n p (λ h l. r l) (ℕ_discrete (entry_at map totals t) no_way) ∙ sym (wants_none n (λ h l. r l))
          go (no e) (no p) (no q) r =
              let n : t ≡ start → ⊥ = λ z. e (ap (index_in map) z) in
              none n p (λ h l. q h) (ℕ_discrete (entry_at map totals t) no_way) ∙ sym (wants_none n (λ h l. q h))

      pub keeps_of : entry_at map totals t ≡ want G (at totals) (index_in map start) budget (index_in map t) → Keeps map efforts start budget totals t
      unfolding wanted
      keeps_of e =
          record {
            home = λ z. e ∙ wants_home z;
            shut = λ n z. e ∙ wants_none n (λ h l. (offers h).free z);
            within = λ n o x S l. let q = smallest_offers x o S l top in e ∙ wants_offer n (omega arith) ∙ q;
            otherwise = λ n o f. e ∙ wants_none n (λ h l. let k = offers h in omega (arith, k.is, f (entry_at map totals k.of) (smallest_of k h)));
          }
