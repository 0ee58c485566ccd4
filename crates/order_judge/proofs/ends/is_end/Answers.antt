use Rattle.order_judge.proofs.BodyLemmas.{end_other}
use Rattle.order_judge.proofs.ends.is_end.Goals as goal

pub returns-in_default : goal.returns-in_default
returns-in_default c = end_other c.args.body.now c.in_default.not-End
