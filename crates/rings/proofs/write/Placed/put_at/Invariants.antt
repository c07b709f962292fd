-- The first i legs are laid.
use Prim.Native.Nat.{ℕ}
use mathlib.Core.List.{List}
use Rattle.hexes.specs.declared.Tile.{Tile}
use Rattle.runs.specs.Laid.{Laid}
use Rattle.runs.specs.Lists.{gather}
use Rattle.rings.specs.Leaves.{leg_at, leg_tiles}
use Rattle.rings.specs.declared.figure.Figure.{Figure}
use Rattle.rings.proofs.write.Placed.put_at.Given as goal

-- The tiles of leg i.
abbrev pub leg_of : Tile → ℕ → Figure → ℕ → List Tile
leg_of centre range figure i = leg_tiles centre range (leg_at figure.shape figure.direction figure.sense range i)

abbrev pub invariant-loop-i : goal.invariant-loop-i
invariant-loop-i l = Laid l.fn.run l.at (gather (leg_of l.self.centre l.range l.self.figure) l.i) l.next l.run
