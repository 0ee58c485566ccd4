use Rattle.loop_entries.proofs.BlockLemmas.{alike_some, alike_none}
use Rattle.loop_entries.proofs.blocks.are_alike.Goals as goal

pub returns-in-Some : goal.returns-in-Some
returns-in-Some c = λ p are. alike_some p c.args.ranges.now c.args.place c.in-Some.next c.args.next c.are_in_same.result are c.in-Some.is c.are_in_same.ensures

pub returns-in-None : goal.returns-in-None
returns-in-None c = λ p are. alike_none p c.args.place c.args.next c.in-None.is
