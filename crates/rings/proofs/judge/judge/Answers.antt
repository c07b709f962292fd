-- `judge` meets its contract, test by test.
use mathlib.Core.Path.{sym, ◌∙◌}
use Rattle.rings.proofs.Judging.{far_away, first_too_large, last_too_large, direction_unknown, sense_unknown, not_refused}
use Rattle.rings.proofs.judge.judge.Goals as goal

pub returns-then-not-within_limit : goal.returns-then-not-within_limit
returns-then-not-within_limit c = far_away _ _ _ _ _ (sym c.within_limit.ensures ∙ c.if-not-within_limit.true)

pub returns-then-first-gt-RANGE : goal.returns-then-first-gt-RANGE
returns-then-first-gt-RANGE c = first_too_large _ _ _ _ _ (sym c.within_limit.ensures ∙ c.if-not-within_limit.false) c.if-first-gt-RANGE.true

pub returns-then-last-gt-RANGE : goal.returns-then-last-gt-RANGE
returns-then-last-gt-RANGE c = last_too_large _ _ _ _ _ (sym c.within_limit.ensures ∙ c.if-not-within_limit.false) c.if-last-gt-RANGE.true

pub returns-then-direction-gt5 : goal.returns-then-direction-gt5
returns-then-direction-gt5 c = direction_unknown _ _ _ _ _ (sym c.within_limit.ensures ∙ c.if-not-within_limit.false) c.if-first-gt-RANGE.false c.if-last-gt-RANGE.false c.if-direction-gt5.true

pub returns-then-sense-gt1 : goal.returns-then-sense-gt1
returns-then-sense-gt1 c = sense_unknown _ _ _ _ _ (sym c.within_limit.ensures ∙ c.if-not-within_limit.false) c.if-first-gt-RANGE.false c.if-last-gt-RANGE.false c.if-sense-gt1.true

pub returns : goal.returns
returns c = not_refused _ _ _ _ _ (sym c.within_limit.ensures ∙ c.if-not-within_limit.false) c.if-first-gt-RANGE.false c.if-last-gt-RANGE.false c.if-direction-gt5.false c.if-sense-gt1.false
