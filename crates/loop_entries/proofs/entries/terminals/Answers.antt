use Rattle.loop_entries.proofs.TerminalLemmas.{terminals_found}
use Rattle.loop_entries.proofs.entries.terminals.Goals as goal

pub returns-clause-ends : goal.returns-clause-ends
returns-clause-ends c = terminals_found c.terminal_places.result c.args.unit.now c.terminal_places.ensures.count c.terminal_places.ensures.ranges
