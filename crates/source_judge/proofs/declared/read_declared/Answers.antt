use Rattle.source_judge.proofs.SourceAnswers.{read_refused, declared_by}
use Rattle.source_judge.proofs.declared.read_declared.Goals as goal

pub returns-in-Ok : goal.returns-in-Ok
returns-in-Ok c = λ files named.
    declared_by c.args.options.now files c.args.named.now.names c.args.included.now c.in-Ok.set c.well_declared.result (c.in-Ok.ensures files named) c.well_declared.ensures

pub returns-in-Err : goal.returns-in-Err
returns-in-Err c = λ files named. read_refused c.args.options.now files c.args.named.now.names c.args.included.now c.in-Err.fail (c.in-Err.ensures files named)
