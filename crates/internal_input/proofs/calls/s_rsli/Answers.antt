use Rattle.internal_input.proofs.CallLaws.{start-begins, start-faulty}
use Rattle.internal_input.proofs.calls.s_rsli.Goals as goal

pub returns-in-Ok : goal.returns-in-Ok
returns-in-Ok c = start-begins c.args.run.now c.args.pointer c.in-Ok.control c.begin_reading.result c.in-Ok.ensures c.begin_reading.ensures

pub returns-in-Err : goal.returns-in-Err
returns-in-Err c = start-faulty c.args.run.now c.args.pointer c.in-Err.fault c.in-Err.ensures
