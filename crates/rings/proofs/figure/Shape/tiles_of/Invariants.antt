-- The first k ranges are summed.
use mathlib.Core.Path.{◌≡◌}
use Prim.Native.Nat.{◌*◌, ◌≤◌}
use Rattle.rings.specs.Leaves.{tiles_of}
use Rattle.rings.proofs.figure.Shape.tiles_of.Given as goal

abbrev pub invariant-loop-k : goal.invariant-loop-k
invariant-loop-k l = (l.sum ≡ tiles_of l.self l.first l.k) × (l.sum ≤ 6000 * l.k)
