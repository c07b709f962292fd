-- Laws of the offers, as the code reckons them: what a step offers, and what the rule wants of the best offer.
use mathlib.Core.Path.{◌≡◌, refl, sym, ap, ◌∙◌}
use mathlib.Core.Bool.{cond}
use mathlib.Core.List.{List}
use Prim.Native.Nat.{ℕ, ◌+◌, ◌≤◌, ◌<◌, min}
use native.Mathlib.Numerals.{add-one}
use native.Mathlib.Omega.{arith}
use lib.Dec.{ltb}
use lib.ListN.{length, get_or}
use borrow.Author.Tests.{eq-eqb, ne_eqb, le-leb, lt-leb}
use Rattle.paths.specs.Lands.{Land}
use Rattle.paths.specs.NeighborRule.{offer, best, want}
use Rattle.paths.specs.Tables.{at}
use Rattle.hexes.specs.Limits.{no_way}
use Rattle.storage.specs.Leaves.{near_in}
use Rattle.storage.specs.Maps.{area_of}
use Rattle.storage.specs.declared.Map.{Map}
use Rattle.terrain.specs.LandOfMap.{price_of, against, land_of}
use Rattle.field_of_movement.specs.Scanning.{offered}

-- What the code reckons is the theory's over the land of the map.
module _ (map : Map) (efforts totals : List ℕ) (i : ℕ) where
  abbrev G : Land
  G = land_of map efforts no_way

  pub offer_is : (d from price : ℕ) → length totals ≡ area_of map.radius → from ≡ near_in map i (against d) → price ≡ price_of (get_or efforts i 0) → offered totals from price ≡ offer G (at totals) i d
  offer_is d from price l ef ep = λ j. cond (ltb (ef j) (l j)) (cond (ltb 0 (ep j)) (at totals (ef j) + ep j) no_way) no_way

  pub best_none : no_way ≡ best G (at totals) i 0
  unfolding best
  best_none = refl

  pub best_next : (d b x : ℕ) → b ≡ best G (at totals) i d → x ≡ offer G (at totals) i d → min b x ≡ best G (at totals) i (d + 1)
  unfolding best
  best_next d b x eb ex = (λ j. min (eb j) (ex j)) ∙ sym (ap (best G (at totals) i) (add-one d))

  -- What the rule wants, by its two tests.
  module _ (start budget b : ℕ) (is : b ≡ best G (at totals) i 6) where
    pub wants_home : i ≡ start → 0 ≡ want G (at totals) start budget i
    unfolding want
    wants_home e = rw (eq-eqb i start e)

    pub wants_best : (i ≡ start → ⊥) → b ≤ budget → b ≡ want G (at totals) start budget i
    unfolding want
    wants_best n h = is ∙ sym (rw (ne_eqb i start n, le-leb (best G (at totals) i 6) budget (omega (arith, is))))

    pub wants_none : (i ≡ start → ⊥) → budget < b → no_way ≡ want G (at totals) start budget i
    unfolding want
    wants_none n h = rw (ne_eqb i start n, lt-leb (best G (at totals) i 6) budget (omega (arith, is)))
