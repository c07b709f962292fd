-- Laws of one step down the ranks: what a step offers, as the code reckons it, is what the theory says; and the first direction that makes up the rank is the one to take.
use mathlib.Core.Path.{◌≡◌, refl, sym, ◌∙◌}
use mathlib.Core.Bool.{false, cond}
use mathlib.Core.List.{List}
use Prim.Native.Nat.{ℕ, ◌+◌, ◌*◌, ◌-◌, ◌≤◌, ◌<◌}
use native.Mathlib.Decide.{ℕ_discrete, dec_lt}
use native.Mathlib.Omega.{arith}
use lib.Dec.{eqb, ltb}
use lib.ListN.{length, get_or}
use borrow.Author.Tests.{eq-eqb, ne_eqb, lt-ltb, le-ltb}
use Rattle.paths.specs.Lands.{Land}
use Rattle.paths.specs.NeighborRule.{offer}
use Rattle.paths.specs.Tables.{at}
use Rattle.routes.specs.Descents.{Taken}
use Rattle.routes.specs.Ranks.{multiplier, no_rank}
use Rattle.routes.specs.Turned.{turned}
use Rattle.hexes.specs.Limits.{barred}
use Rattle.storage.specs.Leaves.{near_in}
use Rattle.storage.specs.Maps.{area_of}
use Rattle.storage.specs.declared.Map.{Map}
use Rattle.terrain.specs.GroundOfMap.{ground_of}
use Rattle.pathfinding.specs.Ways.{offer_of}

-- Whether a step makes up a rank, by its three tests.
module _ (efforts ranks : List ℕ) (t rank : ℕ) (has : rank < no_rank) where
  differs : (x : ℕ) → (x ≡ rank → ⊥) → offer_of efforts ranks t ≡ x → false ≡ eqb (offer_of efforts ranks t) rank
  differs x n e = sym (ne_eqb (offer_of efforts ranks t) rank (λ z. n (sym e ∙ z)))

  pub no_tile : length ranks ≤ t → false ≡ eqb (offer_of efforts ranks t) rank
  unfolding offer_of
  no_tile h = differs no_rank (λ z. omega arith) (rw (le-ltb t (length ranks) h))

  pub none_makes : length ranks ≤ t → offer_of efforts ranks t ≡ rank → ⊥
  unfolding offer_of
  none_makes h e = let o : offer_of efforts ranks t ≡ no_rank = rw (le-ltb t (length ranks) h) in absurd (omega (arith, o, e))

  pub not_open : t < length ranks → barred ≤ get_or efforts t 0 → false ≡ eqb (offer_of efforts ranks t) rank
  unfolding offer_of
  not_open h b = differs no_rank (λ z. omega arith) (rw (lt-ltb t (length ranks) h, le-ltb (get_or efforts t 0) barred b))

  sums : t < length ranks → get_or efforts t 0 < barred → offer_of efforts ranks t ≡ get_or ranks t 0 + (get_or efforts t 0 * multiplier + 1)
  unfolding offer_of
  sums h b = rw (lt-ltb t (length ranks) h, lt-ltb (get_or efforts t 0) barred b)

  pub too_heavy : t < length ranks → get_or efforts t 0 < barred → rank < get_or efforts t 0 * multiplier + 1 → false ≡ eqb (offer_of efforts ranks t) rank
  too_heavy h b l = differs (get_or ranks t 0 + (get_or efforts t 0 * multiplier + 1)) (λ z. omega arith) (sums h b)

  pub by_rest : t < length ranks → get_or efforts t 0 < barred → get_or efforts t 0 * multiplier + 1 ≤ rank → eqb (get_or ranks t 0) (rank - (get_or efforts t 0 * multiplier + 1)) ≡ eqb (offer_of efforts ranks t) rank
  by_rest h b l = go (ℕ_discrete (get_or ranks t 0) (rank - (get_or efforts t 0 * multiplier + 1)))
    where
      go : Dec (get_or ranks t 0 ≡ rank - (get_or efforts t 0 * multiplier + 1)) → eqb (get_or ranks t 0) (rank - (get_or efforts t 0 * multiplier + 1)) ≡ eqb (offer_of efforts ranks t) rank
      go (yes e) = eq-eqb _ _ e ∙ sym (eq-eqb (offer_of efforts ranks t) rank (omega (arith, sums h b)))
      go (no n) = ne_eqb _ _ n ∙ differs (get_or ranks t 0 + (get_or efforts t 0 * multiplier + 1)) (λ z. n (omega arith)) (sums h b)

-- What a step out of an open tile offers is the theory's offer over the ground turned round.
module _ (m : Map) (efforts ranks : List ℕ) (u : ℕ) (is_open : get_or efforts u 0 < barred) (size : length ranks ≡ area_of m.radius) where
  abbrev L : Land
  L = turned (ground_of m efforts) multiplier

  pub offer_is : (d t : ℕ) → t ≡ near_in m u d → offer_of efforts ranks t ≡ offer L (at ranks) u d
  unfolding offer_of
  offer_is d t e = (λ j. by (e j) (size j)) ∙ weighed (near_in m u d) (dec_lt (near_in m u d) (area_of m.radius)) (dec_lt (get_or efforts (near_in m u d) 0) barred)
    where
      by : ℕ → ℕ → ℕ
      by t n = cond (ltb t n) (cond (ltb (get_or efforts t 0) barred) (get_or ranks t 0 + (get_or efforts t 0 * multiplier + 1)) no_rank) no_rank

      weighed : (t : ℕ) → Dec (t < area_of m.radius) → Dec (get_or efforts t 0 < barred)
          → by t (area_of m.radius)
          ≡ cond (ltb t (area_of m.radius))
          (cond (ltb 0 (cond (ltb (get_or efforts u 0) barred) (cond (ltb (get_or efforts t 0) barred) (get_or efforts t 0 * multiplier + 1) 0) 0))
          (get_or ranks t 0 + cond (ltb (get_or efforts u 0) barred) (cond (ltb (get_or efforts t 0) barred) (get_or efforts t 0 * multiplier + 1) 0) 0) no_rank) no_rank
      weighed t (yes h) (yes b) = rw (lt-ltb t (area_of m.radius) h, lt-ltb (get_or efforts t 0) barred b, lt-ltb (get_or efforts u 0) barred is_open, lt-ltb 0 (get_or efforts t 0 * multiplier + 1) (omega arith))
      weighed t (yes h) (no b) = rw (lt-ltb t (area_of m.radius) h, le-ltb (get_or efforts t 0) barred (omega arith), lt-ltb (get_or efforts u 0) barred is_open)
      weighed t (no h) b = rw (le-ltb t (area_of m.radius) (omega arith))

  -- The first direction that makes up the rank is the one to take.
  pub first_taken : (d k : ℕ) → offer_of efforts ranks (near_in m u d) ≡ get_or ranks u 0 → ((i : ℕ) → i < d → offer_of efforts ranks (near_in m u i) ≡ get_or ranks u 0 → ⊥) → Taken L (at ranks) u k → d ≡ k
  first_taken d k e none t = go (dec_lt d k) (dec_lt k d)
    where
      go : Dec (d < k) → Dec (k < d) → d ≡ k
      go (yes l) r = absurd (t.smallest d l (sym (offer_is d (near_in m u d) refl) ∙ e))
      go (no l) (yes r) = absurd (none k r (offer_is k (near_in m u k) refl ∙ t.makes))
      go (no l) (no r) = omega arith

  pub none_taken : (k : ℕ) → ((i : ℕ) → i < 6 → offer_of efforts ranks (near_in m u i) ≡ get_or ranks u 0 → ⊥) → Taken L (at ranks) u k → ⊥
  none_taken k none t = none k t.dir (offer_is k (near_in m u k) refl ∙ t.makes)
