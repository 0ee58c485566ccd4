use Rattle.unit_library.proofs.ArgumentLaws.{one-given}
use Rattle.unit_library.proofs.InternalLaws.{start-begins, start-faulty}
use Rattle.unit_library.proofs.internal.begin_internal.Goals as goal

pub returns-in-Ok : goal.returns-in-Ok
returns-in-Ok c =
    start-begins _ c.args.run.now c.argument-pointer.result c.in-Ok.output c.args.transfer.now (one-given c.args.values.now c.argument-pointer.result c.argument-pointer.ensures) c.requires
    c.in-Ok.ensures

pub returns-in-Err : goal.returns-in-Err
returns-in-Err c =
    start-faulty _ c.args.run.now c.argument-pointer.result c.in-Err.fault c.args.transfer.now c.broken.result
    (one-given c.args.values.now c.argument-pointer.result c.argument-pointer.ensures) c.requires c.broken.ensures c.in-Err.ensures
