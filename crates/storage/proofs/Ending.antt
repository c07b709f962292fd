-- The ways in which a conversion of a map ends: the map refused, nothing of the map asked for, or found. And what leaves one answer to the way back.
use mathlib.Core.Path.{◌≡◌, refl, sym, ap, ◌∙◌}
use mathlib.Core.Bool.{Bool, true, false}
use Prim.Native.Nat.{ℕ, zero, suc, ◌<◌}
use native.Mathlib.Omega.{arith}
use Rattle.hexes.specs.Answers.{Told, accepted, refused, provided}
use Rattle.hexes.specs.Refusals.{number_of, not_of_map}
use Rattle.hexes.specs.declared.Tile.{Tile}
use Rattle.hexes.specs.declared.refusal.Refusal.{Refusal}
use Rattle.hexes.proofs.Tells.{One, refusal_number}
use Rattle.storage.specs.Leaves.{place_refusal}
use Rattle.storage.specs.Maps.{map_refusal, of_map, judged_by, to_place, TheTile, of, none, FromPlace}
use Rattle.storage.specs.declared.Map.{Map}
use Rattle.storage.specs.declared.map_tile.MapTile.{MapTile}
use Rattle.storage.proofs.Maps.{judged_fine}

-- The refusal of a tile, test by test.
module _ (map : Map) (t : Tile) where
  pub place_map_refused : (e : Refusal) → number_of e ≡ map_refusal map → number_of e ≡ place_refusal map t
  unfolding place_refusal
  place_map_refused e h = go (map_refusal map) h
    where
      go : (n : ℕ) → number_of e ≡ n → number_of e ≡ judged_by n (λ n. n) (provided (of_map map t) not_of_map 0)
      go zero h = absurd (omega (arith, refusal_number e))
      go (suc n) h = h

  pub place_outside : map_refusal map ≡ 0 → of_map map t ≡ false → not_of_map ≡ place_refusal map t
  unfolding place_refusal
  place_outside z off = rw (z, off)

module _ {A : Type 0} (zeros : A) (map : Map) (t : Tile) (value : A) where
  pub to_refused : (e : Refusal) → number_of e ≡ place_refusal map t → refused zeros (number_of e) ≡ to_place zeros map t value
  unfolding to_place place_refusal
  to_refused e h = go (map_refusal map) (of_map map t) h
    where
      go : (n : ℕ) (b : Bool) → number_of e ≡ judged_by n (λ n. n) (provided b not_of_map 0) → refused zeros (number_of e) ≡ judged_by n (refused zeros) (provided b (refused zeros not_of_map) (accepted value))
      go zero true h = absurd (omega (arith, refusal_number e))
      go zero false h = ap (refused zeros) h
      go (suc n) b h = ap (refused zeros) h

  pub to_outside : map_refusal map ≡ 0 → of_map map t ≡ false → refused zeros not_of_map ≡ to_place zeros map t value
  unfolding to_place
  to_outside e f = rw (e, f)

  pub to_found : map_refusal map ≡ 0 → of_map map t ≡ true → (a : A) → a ≡ value → accepted a ≡ to_place zeros map t value
  unfolding to_place
  to_found e f a g = rw (e, f) (ap accepted g)

module _ {A : Type 0} (map : Map) (has : Tile → A) (asked : A) where
  pub from_fine : {told : Told Tile} → map_refusal map ≡ 0 → TheTile map has asked told → FromPlace map has asked told
  from_fine z the = record { map_fine = λ e. the; map_refused = λ l. absurd (omega (arith, z, l)) }

-- A tile of a map that was judged is the one that the way back tells.
pub from_here : {A : Type 0} (h : MapTile) (has : Map → Tile → A) (asked : A) → asked ≡ has h.fine.map h.tile → FromPlace h.fine.map (has h.fine.map) asked (accepted h.tile)
from_here h has asked e = from_fine h.fine.map (has h.fine.map) asked (judged_fine h.fine) (of h.tile h.of (sym e))

-- A tile that the way back tells is of the map, which is fine, and has what is asked.
module _ {A : Type 0} (map : Map) (has : Tile → A) (asked : A) (t : Tile) where
  the_tile : (v : Told Tile) → v ≡ accepted t → TheTile map has asked v → (of_map map t ≡ true) × (has t ≡ asked)
  the_tile v q (of s p e) = let same : s ≡ t = ap (λ (v : Told Tile). v.value) q in (sym (ap (of_map map) same) ∙ p, sym (ap has same) ∙ e)
  the_tile v q (none n) = let k : ◌≡◌ {A = ℕ} 5 0 = ap (λ (v : Told Tile). v.number) q in absurd (omega arith)

  pub from_found : FromPlace map has asked (accepted t) → (map_refusal map ≡ 0) × ((of_map map t ≡ true) × (has t ≡ asked))
  from_found h = go (map_refusal map) refl
    where
      go : (n : ℕ) → map_refusal map ≡ n → (map_refusal map ≡ 0) × ((of_map map t ≡ true) × (has t ≡ asked))
      go zero z = (z, the_tile _ refl (h.map_fine z))
      go (suc n) z =
          let l : 0 < map_refusal map = omega arith in
          let k : 0 ≡ map_refusal map = ap (λ (v : Told Tile). v.number) (h.map_refused l) in
          absurd (omega arith)

-- Where no two tiles of a map have the same, one thing told meets the way back.
unfoldable pub OneHas : {A : Type 0} → Map → (Tile → A) → Type 0
OneHas map has = (s t : Tile) → of_map map s ≡ true → of_map map t ≡ true → has s ≡ has t → s ≡ t

module _ {A : Type 0} (map : Map) (has : Tile → A) (one : OneHas map has) (asked : A) where
  the_tile_one : (v w : Told Tile) → TheTile map has asked v → TheTile map has asked w → v ≡ w
  unfolding OneHas
  the_tile_one v w (of s p e) (of t q f) = ap accepted (one s t p q (e ∙ sym f))
  the_tile_one v w (of s p e) (none n) = absurd (n s p e)
  the_tile_one v w (none n) (of t q f) = absurd (n t q f)
  the_tile_one v w (none n) (none k) = refl

  pub from_one : One (FromPlace map has asked)
  unfolding One
  from_one v w p q = go (map_refusal map) refl
    where
      go : (n : ℕ) → map_refusal map ≡ n → v ≡ w
      go zero e = the_tile_one v w (p.map_fine e) (q.map_fine e)
      go (suc n) e = let h : 0 < map_refusal map = omega arith in p.map_refused h ∙ sym (q.map_refused h)
