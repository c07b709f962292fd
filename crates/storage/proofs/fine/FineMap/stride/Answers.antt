-- `stride` meets its contract: a shift of at most 182, once or not at all, and one more or less.
use mathlib.Core.Path.{◌≡◌, ap₂, ◌∙◌}
use Prim.Native.Nat.{ℕ, ◌≤◌}
use native.Mathlib.Omega.{arith}
use lib.IntN.{pos, nat_abs, ◌+ℤ◌, ◌*ℤ◌}
use mir.Syntax.{w32}
use mir.Facts.{to_z-of_z}
use Rattle.hexes.specs.Directions.{step_of}
use Rattle.hexes.specs.declared.Step.{Step}
use Rattle.hexes.proofs.Metric.{step_small}
use Rattle.storage.specs.Leaves.{stride_of}
use Rattle.storage.proofs.Reckoned.{product_fits, sum_fits, parts}
use Rattle.storage.proofs.fine.FineMap.stride.Goals as goal

small : (s : Step) (d : ℕ) → s ≡ step_of d → (nat_abs s.0 ≤ 1) × (nat_abs s.1 ≤ 1)
small s d e = rw e (step_small d)

pub overflow_mul-result : goal.overflow_mul-result
overflow_mul-result c =
    let s = c.step_of-step in
    let h = small s.result _ s.ensures in
    product_fits w32 c.shift.result 1 s.result.0 s.result.1 (omega arith) (omega arith) h.0 h.1

pub overflow_add-result : goal.overflow_add-result
overflow_add-result c =
    let s = c.step_of-step in
    let h = small s.result _ s.ensures in
    sum_fits w32 c.shift.result 1 s.result.0 s.result.1 (omega arith) (omega arith) h.0 h.1

pub returns : goal.returns
unfolding stride_of
returns c =
    let s = c.step_of-step in
    let h = small s.result _ s.ensures in
    to_z-of_z (overflow_add-result c)
    ∙ parts w32 c.shift.result 1 s.result.0 s.result.1 (omega arith) (omega arith) h.0 h.1
    ∙ ap₂ (λ (k : ℕ) (t : Step). t.1 +ℤ pos k *ℤ t.0) c.shift.ensures s.ensures
