-- `wanted` meets its contract, by its two tests.
use mathlib.Core.Path.{refl}
use Rattle.field_of_movement.proofs.Offering.{wants_home, wants_best, wants_none}
use Rattle.field_of_movement.proofs.rule.Check.wanted.Goals as goal

pub returns-then-i-self : goal.returns-then-i-self
returns-then-i-self c = let s = c.args.self.now in wants_home s.map s.efforts.now s.totals.now c.args.i s.start s.budget _ refl c.if-i-self.true

pub returns-then-best-self : goal.returns-then-best-self
returns-then-best-self c = let s = c.args.self.now in wants_best s.map s.efforts.now s.totals.now c.args.i s.start s.budget _ c.best-best.ensures c.if-i-self.false c.if-best-self.true

pub returns-else-best-self : goal.returns-else-best-self
returns-else-best-self c = let s = c.args.self.now in wants_none s.map s.efforts.now s.totals.now c.args.i s.start s.budget _ c.best-best.ensures c.if-i-self.false c.if-best-self.false
