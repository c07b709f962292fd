-- `fill_ranks` meets its contract: the ranks that are told to a table that fits are right, and where the end is barred there are none.
use mathlib.Core.Path.{refl, sym, ap, ◌∙◌}
use native.Mathlib.Omega.{arith}
use lib.ListN.{replicate}
use Rattle.routes.specs.Ranks.{no_rank}
use Rattle.engine.proofs.Fillings.{filled}
use Rattle.engine.proofs.RankFillings.{tells_open, tells_barred}
use Rattle.engine.proofs.fill_ranks.Goals as goal

pub returns-then-efforts-e-lt-BARRED : goal.returns-then-efforts-e-lt-BARRED
returns-then-efforts-e-lt-BARRED c =
    let k = c.if-fit.ensures.known refl in
    filled c.if-fit.ensures.value (c.fill.ensures.written.size ∙ k.efforts_length ∙ sym k.table_length)
    (tells_open _ _ (record { fine = k.map_fine; size = k.efforts_length }) _ _ (omega (arith, k.on, k.efforts_length)) c.if-efforts-e-lt-BARRED.true c.fill.ensures)

pub returns-else-efforts-e-lt-BARRED : goal.returns-else-efforts-e-lt-BARRED
returns-else-efforts-e-lt-BARRED c =
    let k = c.if-fit.ensures.known refl in
    let marks = c.fill-else-efforts-e-lt-BARRED.ensures in
    filled c.if-fit.ensures.value marks.len
    (tells_barred _ _ (record { fine = k.map_fine; size = k.efforts_length }) _ _ c.if-efforts-e-lt-BARRED.false
    (marks.after (λ y e. e) ∙ ap (λ n. replicate n no_rank) (k.table_length ∙ sym k.efforts_length)))
