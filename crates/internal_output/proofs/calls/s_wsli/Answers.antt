use Rattle.internal_output.proofs.CallLaws.{start-begins, start-faulty}
use Rattle.internal_output.proofs.calls.s_wsli.Goals as goal

pub returns-in-Ok : goal.returns-in-Ok
returns-in-Ok c = start-begins c.args.run.now c.args.pointer c.in-Ok.control c.begun.result c.in-Ok.ensures c.begun.ensures

pub returns-in-Err : goal.returns-in-Err
returns-in-Err c = start-faulty c.args.run.now c.args.pointer c.in-Err.fault c.in-Err.ensures
