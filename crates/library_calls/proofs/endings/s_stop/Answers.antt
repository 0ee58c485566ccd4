use Rattle.library_calls.proofs.CallLemmas.{stop-answered}
use Rattle.library_calls.proofs.endings.s_stop.Goals as goal

pub returns : goal.returns
returns c = stop-answered (λ text. text.now) c.args.run.now c.args.pointer c.args.size c.ending_text.result c.ending_text.ensures
