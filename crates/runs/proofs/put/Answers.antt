-- `put` meets its contract: past both tests there is room for two stores side by side.
use mathlib.Core.Path.{refl}
use native.Mathlib.Omega.{arith}
use mir.Syntax.{w32}
use mir.Val.{SFits}
use mir.Facts.{to_z-of_z}
use borrow.Author.Rules.{rules}
use Rattle.runs.proofs.Written.{written_two}
use Rattle.runs.proofs.put.Goals as goal

pub returns : goal.returns
returns c =
    let tile = c.args.tile in
    let x : SFits w32 tile.x = search rules in
    let y : SFits w32 tile.y = search rules in
    record {
      room = λ h. (refl, rw (to_z-of_z x, to_z-of_z y) (written_two c.args.run.now c.args.at tile.x tile.y h));
      no_room = λ h. absurd (omega arith);
    }
