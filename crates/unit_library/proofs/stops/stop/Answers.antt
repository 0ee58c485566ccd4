use Rattle.unit_library.proofs.ArgumentLaws.{two-given}
use Rattle.unit_library.proofs.SameCalls.{fault-call}
use Rattle.unit_library.proofs.StopLaws.{stops-with, stops-plainly, empty-text}
use Rattle.unit_library.proofs.stops.stop.Goals as goal

pub returns-then-is_empty : goal.returns-then-is_empty
returns-then-is_empty c =
    stops-plainly _ c.args.run.now c.argument-pointer.result c.argument-size.result c.in-Ok.text.now
    (two-given c.args.values.now c.argument-pointer.result c.argument-size.result c.argument-pointer.ensures c.argument-size.ensures)
    (empty-text c.in-Ok.text.now c.if-is_empty.ensures) c.in-Ok.ensures

pub returns-else-is_empty : goal.returns-else-is_empty
returns-else-is_empty c =
    stops-with _ c.args.run.now c.argument-pointer.result c.argument-size.result c.in-Ok.text.now
    (two-given c.args.values.now c.argument-pointer.result c.argument-size.result c.argument-pointer.ensures c.argument-size.ensures) c.in-Ok.ensures

pub returns-in-Err : goal.returns-in-Err
returns-in-Err c =
    fault-call _ _ _ c.args.run.now c.in-Err.fault c.broken.result
    (two-given c.args.values.now c.argument-pointer.result c.argument-size.result c.argument-pointer.ensures c.argument-size.ensures) c.broken.ensures c.in-Err.ensures.0
