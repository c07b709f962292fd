-- `laid` meets its contract, by the three ways in which it ends: the pair is refused, or there is no room for it, or it is laid.
use mathlib.Core.Path.{refl}
use mathlib.Core.List.{[], ◌∷◌}
use native.Mathlib.Omega.{arith}
use Rattle.hexes.proofs.Tells.{passed_on}
use Rattle.runs.proofs.Ending.{refused_for, short_of_room, listed_all}
use Rattle.runs.proofs.Laying.{laid_put}
use Rattle.firmware.proofs.pairs.laid.Goals as goal

pub returns-in_err-entries : goal.returns-in_err-entries
returns-in_err-entries c = rw (c.in_err-entries.was, passed_on _ c.from_residual.ensures.1) (refused_for _ _ _ refl)

pub returns-then-run-lt2 : goal.returns-then-run-lt2
returns-then-run-lt2 c = rw c.in_ok-entries.was (short_of_room 0 (c.in_ok-entries.entries ∷ []) c.args.run.now refl (omega arith))

pub returns : goal.returns
returns c =
    let e = c.in_ok-entries.entries in
    let run = c.args.run.now in
    rw c.in_ok-entries.was (listed_all 0 (e ∷ []) run refl refl (omega arith) (laid_put run 0 e e (omega arith) refl c.put.ensures))
