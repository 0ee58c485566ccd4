use Rattle.loop_entries.proofs.NestLemmas.{ends_behind, ends_before, ends_none}
use Rattle.loop_entries.proofs.nested.ends_behind.Goals as goal

pub returns-then-place-last : goal.returns-then-place-last
returns-then-place-last c = λ p names reads.
    ends_behind p names c.args.statements.now c.args.place c.in-Some.last c.args.end c.begins_loop_at.result reads c.in-Some.is c.if-place-last.true c.begins_loop_at.ensures

pub returns-else-place-last : goal.returns-else-place-last
returns-else-place-last c = λ p names reads. ends_before p c.args.place c.in-Some.last c.args.end c.in-Some.is c.if-place-last.false

pub returns-in-None : goal.returns-in-None
returns-in-None c = λ p names reads. ends_none p c.args.place c.args.end c.in-None.is
