-- `look_around` meets its contract: the steps by the directions below the index have been looked at.
use mathlib.Core.Path.{◌≡◌}
use native.Mathlib.Omega.{arith}
use Rattle.engine.proofs.Looking.{kept_trans, around_next}
use Rattle.engine.proofs.settling.look_around.Goals as goal

pub loop-to-preserved : goal.loop-to-preserved
loop-to-preserved c =
    let x = c.args in
    let l = c.loop-to in
    record {
      kept = kept_trans l.invariant.kept c.look.ensures.kept;
      looked = around_next x.base x.budget l.to-index x.steps x.tree.now l.tree c.look.new.tree (omega arith) l.invariant.kept l.invariant.looked c.look.ensures.looked;
    }

pub returns-clause-looked : goal.returns-clause-looked
returns-clause-looked c = let e : c.loop-to.to-index ≡ 6 = omega arith in rw e at c.loop-to.invariant.looked
