-- No one answer serves every input: a call that refuses everything, or that answers the same always, breaks its promise. Two inputs show it of each call.
use mathlib.Core.Path.{◌≡◌, refl, sym, ap, ◌∙◌}
use mathlib.Core.Bool.{Bool, true}
use Prim.Native.Nat.{ℕ}
use native.Mathlib.Omega.{arith}
use lib.IntN.{pos, nat_abs}
use Rattle.whole.specs.Euclid.{quotient, remainder}
use Rattle.hexes.specs.Answers.{Told, Answer, accepted, origin, TileTells}
use Rattle.hexes.specs.Tiles.{tile, within_limit}
use Rattle.hexes.specs.declared.Tile.{Tile}
use Rattle.hexes.proofs.Tells.{One, tells_both}
use Rattle.conversions.specs.Grid.{no_pair, GridTells, to_grid, FromGrid}
use Rattle.conversions.specs.Offset.{slant_of, offset_of, to_offset, FromOffset}
use Rattle.conversions.specs.Doubled.{doubled_of, to_doubled, FromDoubled}
use Rattle.conversions.specs.declared.GridPair.{GridPair}
use Rattle.conversions.proofs.GridLaws.{Injective, from_grid_one}
use Rattle.conversions.proofs.OffsetLaws.{offset_injective}
use Rattle.conversions.proofs.DoubledLaws.{doubled_injective}
use Rattle.conversions.proofs.RoundTrip.{round_trip}

-- The two inputs are the tiles (0, 0) and (1, 0), and on the way back the pairs that they convert to.
one : Tile
one = tile (pos 1) (pos 0)

zero_not_one : {A : Type 0} (size : A → ℕ) (v : Told A) (a b : A) → v ≡ accepted a → v ≡ accepted b → size a ≡ 0 → size b ≡ 1 → ⊥
zero_not_one {A} size v a b p q z o = let e : size a ≡ size b = ap (λ (told : Told A). size told.value) (sym p ∙ q) in omega arith

column_size : GridPair → ℕ
column_size g = nat_abs g.column

x_size : Tile → ℕ
x_size t = nat_abs t.x

pub to_offset_no_constant : (r : Answer GridPair) → ((t : Tile) (mode orientation : ℕ) → GridTells r (λ told. told ≡ to_offset t mode orientation)) → ⊥
unfolding one column_size quotient remainder within_limit to_grid slant_of offset_of
to_offset_no_constant r h =
    tells_both no_pair _ _ (λ v p q. zero_not_one column_size v _ _ p q refl refl) r (h origin 0 0) (h one 0 0)

pub to_doubled_no_constant : (r : Answer GridPair) → ((t : Tile) (mode : ℕ) → GridTells r (λ told. told ≡ to_doubled t mode)) → ⊥
unfolding one column_size within_limit to_grid doubled_of
to_doubled_no_constant r h =
    tells_both no_pair _ _ (λ v p q. zero_not_one column_size v _ _ p q refl refl) r (h origin 1) (h one 1)

-- On the way back each of the two pairs tells its own tile.
module _ (chosen : Bool) (convert : Tile → GridPair) (inj : Injective convert) (r : Answer Tile) (h : (asked : GridPair) → TileTells r (FromGrid chosen convert asked)) where
  back_apart : to_grid origin chosen (convert origin) ≡ accepted (convert origin) → to_grid one chosen (convert one) ≡ accepted (convert one) → ⊥
  unfolding one x_size One
  back_apart p q =
      let there = (round_trip chosen convert origin (convert origin)).0 p in
      let here = (round_trip chosen convert one (convert one)).0 q in
      tells_both origin _ _ (λ v a b. zero_not_one x_size v origin one (from_grid_one chosen convert (convert origin) inj v (accepted origin) a there) (from_grid_one chosen convert (convert one) inj v (accepted one) b here) refl refl) r (h (convert origin)) (h (convert one))

pub from_offset_no_constant : (r : Answer Tile) → ((asked : GridPair) (mode orientation : ℕ) → TileTells r (FromOffset asked mode orientation)) → ⊥
unfolding one within_limit to_grid
from_offset_no_constant r h = back_apart true (offset_of 0 0) (offset_injective 0 0) r (λ asked. h asked 0 0) refl refl

pub from_doubled_no_constant : (r : Answer Tile) → ((asked : GridPair) (mode : ℕ) → TileTells r (FromDoubled asked mode)) → ⊥
unfolding one within_limit to_grid
from_doubled_no_constant r h = back_apart true (doubled_of 0) (doubled_injective 0) r (λ asked. h asked 0) refl refl
