-- `wedge_count` meets its contract: one of the two factors is even, and its half is taken first, so that the product fits.
use Rattle.rings.proofs.Numbers.{wedge_even, wedge_odd}
use Rattle.rings.proofs.wedge_count.Goals as goal

pub returns-then-n-eq0 : goal.returns-then-n-eq0
returns-then-n-eq0 c = wedge_even c.args.range c.if-n-eq0.true

pub returns-else-n-eq0 : goal.returns-else-n-eq0
returns-else-n-eq0 c = wedge_odd c.args.range c.if-n-eq0.false
