use Rattle.loop_entries.proofs.EntryLemmas.{entry_none, entry_some}
use Rattle.loop_entries.proofs.entering.entry_is_outside.Goals as goal

pub returns-then-not-is_entry : goal.returns-then-not-is_entry
returns-then-not-is_entry c = λ p place are begins. entry_none p place c.args.body.now c.is_entry.result c.is_entry.ensures c.if-not-is_entry.true

pub returns-else-not-is_entry : goal.returns-else-not-is_entry
returns-else-not-is_entry c = λ p place are begins.
    entry_some p c.args.ranges.now place c.args.start c.args.body.now c.is_entry.result c.is_outside.result are begins c.is_entry.ensures c.if-not-is_entry.false c.is_outside.ensures
