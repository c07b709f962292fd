-- `effort_at` meets its contract: where there is no tile, the number for none lies past the efforts.
use mathlib.Core.Path.{sym}
use native.Mathlib.Omega.{arith}
use Rattle.std.proofs.lemmas.List.{get_or_past}
use Rattle.hexes.specs.Limits.{barred}
use Rattle.storage.specs.Leaves.{no_index}
use Rattle.engine.proofs.Paving.{few}
use Rattle.engine.proofs.land.Land.effort_at.Goals as goal

pub returns-in-None : goal.returns-in-None
returns-in-None c =
    let s = c.args.self.now in
    rw c.in-None.is (sym (get_or_past s.efforts.now no_index barred (omega (arith, few _ _ s.of_map))))
