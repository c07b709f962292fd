-- `read_entries` meets its contract: the next word says and writes what the definitions say of it.
use Rattle.std.proofs.Common.{arith, length, ◌-◌, ◌+◌, ◌∙◌}
use Rattle.std.proofs.lemmas.List.{set-get_or}
use Rattle.questions.proofs.Reading.{more_said, more_put, none_put}
use Rattle.questions.proofs.entries.read_entries.Goals as goal

pub returns-in_default-clause-entries_after : goal.returns-in_default-clause-entries_after
returns-in_default-clause-entries_after g c =
    let i = c.loop-i.i in
    let n = length c.args.entries.now in
    rw set-get_or (none_put _ _ c.args.from i (n - i) (n - (i + 1)) _ c.saturating_add.ensures (omega arith) c.argument_at.ensures (omega arith) c.in_default.is ∙ c.loop-i.invariant.puts)

pub loop-i-preserved : goal.loop-i-preserved
loop-i-preserved g c =
    let i = c.loop-i.i in
    let n = length c.args.entries.now in
    record {
      says = more_said _ _ c.args.from i (n - i) (n - (i + 1)) c.loop-i.entries c.saturating_add.ensures (omega arith) c.argument_at.ensures (omega arith) c.in-Some.is ∙ c.loop-i.invariant.says;
      puts = more_put _ _ c.args.from i (n - i) (n - (i + 1)) c.loop-i.entries c.saturating_add.ensures (omega arith) c.argument_at.ensures (omega arith) c.in-Some.is ∙ c.loop-i.invariant.puts;
    }
