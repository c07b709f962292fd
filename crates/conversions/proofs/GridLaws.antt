-- Laws of the way back from any grid: what is told where a tile is known that converts to the pair, and that one answer at most is told where no two tiles convert to the same pair.
use mathlib.Core.Path.{◌≡◌, refl, sym, ap, subst, ◌∙◌}
use mathlib.Core.Bool.{Bool, true, false, cond}
use Prim.Native.Nat.{ℕ, zero, suc}
use native.Mathlib.Omega.{arith}
use borrow.Author.Tests.{leb-true}
use Rattle.std.proofs.lemmas.Bool.{both_ways}
use Rattle.hexes.specs.Answers.{Told, Answer, accepted, origin, TileTells, refused_tile, judged_tile}
use Rattle.hexes.specs.Refusals.{beyond_limit, unknown_number}
use Rattle.hexes.specs.Tiles.{tile_at, within_limit}
use Rattle.hexes.specs.declared.Place.{Place}
use Rattle.hexes.specs.declared.Tile.{Tile}
use Rattle.hexes.proofs.Tells.{One, tells_more, tells_one}
use Rattle.conversions.specs.Grid.{no_pair, GridTells, refused_pair, known, to_grid, TheTile, FromGrid}
use Rattle.conversions.specs.declared.GridPair.{GridPair}

-- The known numbers are 0 and 1: what holds of both holds of every known number.
pub known_two : (P : ℕ → Type 0) → P 0 → P 1 → (n : ℕ) → known n ≡ true → P n
known_two P p q zero k = p
known_two P p q (suc zero) k = q
known_two P p q (suc (suc n)) k = let l = leb-true (suc (suc n)) 1 k in absurd (omega arith)

-- The three ends of the way there.
module _ (t : Tile) (chosen : Bool) (p : GridPair) where
  pub to_beyond : within_limit t ≡ false → refused_pair beyond_limit ≡ to_grid t chosen p
  unfolding to_grid
  to_beyond w = rw w

  pub to_unknown : within_limit t ≡ true → chosen ≡ false → refused_pair unknown_number ≡ to_grid t chosen p
  unfolding to_grid
  to_unknown w k = rw (w, k)

  pub to_found : within_limit t ≡ true → chosen ≡ true → (q : GridPair) → q ≡ p → accepted q ≡ to_grid t chosen p
  unfolding to_grid
  to_found w k q e = rw (w, k, e)

-- A place whose tile converts to the pair, once judged, is what is asked for.
pub judged_is : (convert : Tile → GridPair) (asked : GridPair) (at : Place) → convert (tile_at at) ≡ asked → (told : Told Tile) → told ≡ judged_tile at → TheTile convert asked told
unfolding judged_tile
judged_is convert asked at e told h = go (within_limit (tile_at at)) refl h
  where
    go : (b : Bool) → within_limit (tile_at at) ≡ b → told ≡ cond b (accepted (tile_at at)) (refused_tile 1) → TheTile convert asked told
    go true w h = subst (TheTile convert asked) (sym h) (TheTile.within (tile_at at) e w)
    go false w h = subst (TheTile convert asked) (sym h) (TheTile.beyond (tile_at at) e w)

-- Where the chosen numbers are known, that tile is told.
pub from_known : {chosen : Bool} {convert : Tile → GridPair} {asked : GridPair} {told : Told Tile} → chosen ≡ true → TheTile convert asked told → FromGrid chosen convert asked told
from_known k h = record { known_number_told = λ e. h; unknown_number_told = λ e. absurd (both_ways _ e k) }

-- So a place is judged, and told, as the way back asks.
pub judged_tells : (chosen : Bool) (convert : Tile → GridPair) (asked : GridPair) (at : Place) (r : Answer Tile) → chosen ≡ true → convert (tile_at at) ≡ asked → TileTells r (λ told. told ≡ judged_tile at) → TileTells r (FromGrid chosen convert asked)
judged_tells chosen convert asked at r k same =
    tells_more origin _ _ (λ told e. from_known k (judged_is convert asked at same told e)) r

-- One answer at most.
unfoldable pub Injective : (Tile → GridPair) → Type 0
Injective convert = (t u : Tile) → convert t ≡ convert u → t ≡ u

the_tile_one : (convert : Tile → GridPair) (asked : GridPair) → Injective convert → One (TheTile convert asked)
unfolding One Injective
the_tile_one convert asked inj v w (TheTile.within t e p) (TheTile.within u f q) = ap accepted (inj t u (e ∙ sym f))
the_tile_one convert asked inj v w (TheTile.within t e p) (TheTile.beyond u f q) = absurd (both_ways _ q (ap within_limit (inj u t (f ∙ sym e)) ∙ p))
the_tile_one convert asked inj v w (TheTile.within t e p) (TheTile.none n) = absurd (n t e)
the_tile_one convert asked inj v w (TheTile.beyond t e p) (TheTile.within u f q) = absurd (both_ways _ p (ap within_limit (inj t u (e ∙ sym f)) ∙ q))
the_tile_one convert asked inj v w (TheTile.beyond t e p) (TheTile.beyond u f q) = refl
the_tile_one convert asked inj v w (TheTile.beyond t e p) (TheTile.none n) = absurd (n t e)
the_tile_one convert asked inj v w (TheTile.none n) (TheTile.within u f q) = absurd (n u f)
the_tile_one convert asked inj v w (TheTile.none n) (TheTile.beyond u f q) = absurd (n u f)
the_tile_one convert asked inj v w (TheTile.none n) (TheTile.none m) = refl

pub from_grid_one : (chosen : Bool) (convert : Tile → GridPair) (asked : GridPair) → Injective convert → One (FromGrid chosen convert asked)
unfolding One
from_grid_one true convert asked inj v w p q = the_tile_one convert asked inj v w (p.known_number_told refl) (q.known_number_told refl)
from_grid_one false convert asked inj v w p q = p.unknown_number_told refl ∙ sym (q.unknown_number_told refl)

-- A rule that one thing told at most meets is told by one grid answer at most.
pub grid_tells_one : (rule : Told GridPair → Type 0) → One rule → (r s : Answer GridPair) → GridTells r rule → GridTells s rule → r ≡ s
grid_tells_one = tells_one no_pair
