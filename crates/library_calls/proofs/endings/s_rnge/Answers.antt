use Rattle.library_calls.specs.Reports.{report_shown}
use Rattle.library_calls.proofs.CallLemmas.{range-answered}
use Rattle.library_calls.proofs.endings.s_rnge.Goals as goal

pub returns : goal.returns
returns c = range-answered report_shown c.args.run.now c.args.variable c.args.number c.args.unit c.args.card c.report_of.result c.report_of.ensures
