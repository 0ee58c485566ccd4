use Rattle.source_judge.proofs.SourceAnswers.{not_declared, judged_apart}
use Rattle.source_judge.proofs.judged.judge_source.Goals as goal

pub returns-in-Err : goal.returns-in-Err
returns-in-Err c = λ files named. not_declared c.args.options.now files c.args.named.now.names c.args.included.now c.in-Err.fail (c.in-Err.ensures files named)

pub returns-in-Ok : goal.returns-in-Ok
returns-in-Ok c = λ files named.
    judged_apart c.args.options.now files c.args.named.now.names c.args.included.now c.in-Ok.set c.apart.result (c.in-Ok.ensures files named) c.apart.ensures
