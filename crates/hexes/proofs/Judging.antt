-- What the answer for a place says of the limit: a tile is found exactly where both coordinates are within it.
use mathlib.Core.Path.{◌≡◌, refl, ap}
use mathlib.Core.Bool.{Bool, true, false, cond}
use Prim.Native.Nat.{ℕ}
use native.Mathlib.Omega.{arith}
use Rattle.std.specs.Prelude.{Ok, Err, is_ok}
use Rattle.hexes.specs.Answers.{Told, Answer, accepted, refused_tile, TileTells, judged_tile}
use Rattle.hexes.specs.Refusals.{number_of}
use Rattle.hexes.specs.Tiles.{tile_at, within_limit}
use Rattle.hexes.specs.declared.Place.{Place}
use Rattle.hexes.specs.declared.Tile.{Tile}
use Rattle.hexes.proofs.Tells.{refusal_number}

pub judged_is_ok : (at : Place) (r : Answer Tile) → TileTells r (λ told. told ≡ judged_tile at) → is_ok r ≡ within_limit (tile_at at)
unfolding judged_tile
judged_is_ok at (Ok t) h = go (within_limit (tile_at at)) h
  where
    go : (b : Bool) → accepted t ≡ cond b (accepted (tile_at at)) (refused_tile 1) → true ≡ b
    go true k = refl
    go false k = let z : ◌≡◌ {A = ℕ} 0 1 = ap (λ (told : Told Tile). told.number) k in absurd (omega arith)
judged_is_ok at (Err e) h = go (within_limit (tile_at at)) h
  where
    go : (b : Bool) → refused_tile (number_of e) ≡ cond b (accepted (tile_at at)) (refused_tile 1) → false ≡ b
    go true k = let z : number_of e ≡ 0 = ap (λ (told : Told Tile). told.number) k in absurd (omega (arith, refusal_number e))
    go false k = refl
