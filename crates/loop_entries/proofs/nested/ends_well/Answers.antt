use Rattle.loop_entries.specs.ReadLines.{loop_in}
use Rattle.loop_entries.proofs.NestLemmas.{ends_if_none, ends_if_some}
use Rattle.loop_entries.proofs.nested.ends_well.Goals as goal

pub returns-then-not-begins_loop : goal.returns-then-not-begins_loop
returns-then-not-begins_loop c = λ p names reads there. ends_if_none p c.args.place (loop_in c.args.body.now) c.begins_loop.result c.begins_loop.ensures c.if-not-begins_loop.true

pub returns-else-not-begins_loop : goal.returns-else-not-begins_loop
returns-else-not-begins_loop c = λ p names reads there.
    ends_if_some p c.args.place (loop_in c.args.body.now) c.begins_loop.result c.ends_behind.result c.args.end c.begins_loop.ensures c.if-not-begins_loop.false there (c.ends_behind.ensures p names reads)
