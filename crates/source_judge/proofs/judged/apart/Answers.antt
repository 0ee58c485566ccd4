use Rattle.source_judge.proofs.SourceAnswers.{apart_by}
use Rattle.source_judge.proofs.judged.apart.Goals as goal

pub returns : goal.returns
returns c = apart_by c.args.set c.as_slice.result.now c.in_ok-refused.refused c.unless.result c.in_ok-refused.ensures c.as_slice.ensures c.unless.ensures
