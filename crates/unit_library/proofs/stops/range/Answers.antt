use Rattle.library_calls.specs.Reports.{report_shown}
use Rattle.unit_library.proofs.ArgumentLaws.{four-given}
use Rattle.unit_library.proofs.SameCalls.{fault-call}
use Rattle.unit_library.proofs.PlaceLaws.{ends-outside}
use Rattle.unit_library.proofs.stops.range.Goals as goal

pub returns-in-Ok : goal.returns-in-Ok
returns-in-Ok c =
    ends-outside _ c.args.run.now c.argument-variable.result c.argument-number.result c.argument-unit.result c.argument-card.result (report_shown c.in-Ok.field-0)
    (four-given c.args.values.now c.argument-variable.result c.argument-number.result c.argument-unit.result c.argument-card.result c.argument-variable.ensures
    c.argument-number.ensures c.argument-unit.ensures c.argument-card.ensures) c.in-Ok.ensures

pub returns-in-Err : goal.returns-in-Err
returns-in-Err c =
    fault-call _ _ _ c.args.run.now c.in-Err.fault c.broken.result
    (four-given c.args.values.now c.argument-variable.result c.argument-number.result c.argument-unit.result c.argument-card.result c.argument-variable.ensures
    c.argument-number.ensures c.argument-unit.ensures c.argument-card.ensures) c.broken.ensures c.in-Err.ensures.0
