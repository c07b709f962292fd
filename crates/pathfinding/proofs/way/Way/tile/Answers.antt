-- `tile` meets its contract: the way back finds the one tile that has the index.
use mathlib.Core.Path.{◌≡◌, refl, subst}
use Prim.Native.Nat.{ℕ, ◌<◌}
use native.Mathlib.Omega.{arith}
use Rattle.std.specs.Prelude.{Ok, Err, IsOk}
use Rattle.hexes.specs.Answers.{Answer, TileTells}
use Rattle.hexes.specs.Refusals.{number_of}
use Rattle.hexes.specs.declared.Tile.{Tile}
use Rattle.hexes.proofs.Tells.{refusal_number}
use Rattle.storage.specs.Hexmod.{index, FromHexmod}
use Rattle.storage.specs.Leaves.{tile_at_index}
use Rattle.storage.specs.Maps.{map_refusal, area_of}
use Rattle.storage.specs.declared.Map.{Map}
use Rattle.storage.proofs.Maps.{fine, area_small}
use Rattle.storage.proofs.Near.{found_tile, never_lost}
use Rattle.pathfinding.proofs.way.Way.tile.Goals as goal

pub overflow_cast-u : goal.overflow_cast-u
overflow_cast-u c = let s = c.args.self.now in record { fits = omega (arith, c.requires, area_small s.map.radius (fine s.map s.fine).small) }

-- What the way back answers for the index of a tile of a map that is fine: a tile, which is that one.
module _ (map : Map) (u : ℕ) (z : map_refusal map ≡ 0) (h : u < area_of map.radius) where
  there_is : (r : Answer Tile) → TileTells r (FromHexmod map (index u)) → IsOk r
  there_is (Ok t) p = refl
  there_is (Err e) p = absurd (never_lost map u z h (number_of e) (refusal_number e) p)

  that_one : (t : Tile) (r : Answer Tile) → r ≡ Ok t → TileTells r (FromHexmod map (index u)) → t ≡ tile_at_index map u
  that_one t r is p = found_tile map u z h t (subst (λ (a : Answer Tile). TileTells a (FromHexmod map (index u))) is p)

pub unwrap-requires : goal.unwrap-requires
unwrap-requires c = let s = c.args.self.now in there_is s.map c.args.u s.fine c.requires c.from_hexmod_coordinates.result c.from_hexmod_coordinates.ensures

pub returns : goal.returns
returns c = let s = c.args.self.now in that_one s.map c.args.u s.fine c.requires _ c.from_hexmod_coordinates.result c.unwrap.ensures c.from_hexmod_coordinates.ensures
