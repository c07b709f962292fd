-- `tiles_of` meets its contract: at the loop's head the first k ranges are summed.
use mathlib.Core.Path.{sym}
use Prim.Native.Nat.{ℕ, ◌+◌, ◌≤◌}
use native.Mathlib.Omega.{arith}
use Rattle.runs.proofs.Gathered.{total_none, total_more}
use Rattle.rings.specs.Leaves.{tiles_at}
use Rattle.rings.proofs.Numbers.{tiles_most}
use Rattle.rings.proofs.figure.Shape.tiles_of.Goals as goal

pub loop-k-init : goal.loop-k-init
loop-k-init c = (sym (total_none (λ k. tiles_at c.args.self (c.args.first + k))), omega arith)

pub loop-k-preserved : goal.loop-k-preserved
loop-k-preserved c =
    let n : ℕ = c.args.first + c.loop-k.k in
    let h : n ≤ 1000 = omega arith in
    let added = tiles_most c.args.self n h in
    (omega (arith, c.loop-k.invariant.0, c.tiles_at-sum.ensures, total_more (λ k. tiles_at c.args.self (c.args.first + k)) c.loop-k.k), omega (arith, c.tiles_at-sum.ensures, added))
