use Rattle.std.proofs.Common.{Some, None}
use Rattle.unit_library.proofs.SameCalls.{held-as}
use Rattle.unit_library.proofs.ArgumentLaws.{one-given}
use Rattle.unit_library.proofs.UnitLaws.{statement-outside, statement-inside}
use Rattle.unit_library.proofs.statements.statement.Goals as goal

pub returns-in-None : goal.returns-in-None
returns-in-None g c =
    held-as _ _ c.args.run.now c.args.run.now c.args.transfer None _ _ c.ended.result c.in-None.is
    (statement-outside c.args.function _ c.args.run.now c.argument-pointer.result _ _ c.stated.result c.ended.result (one-given c.args.values.now c.argument-pointer.result c.argument-pointer.ensures) c.ended.ensures c.stated.ensures.answers
    c.stated.ensures.unit)

pub returns-in-Some : goal.returns-in-Some
returns-in-Some g c =
    held-as _ _ c.args.run.now c.args.run.now c.args.transfer (Some c.in-Some.field-0) _ _ c.broken.result c.in-Some.is
    (statement-inside c.args.function _ c.args.run.now c.argument-pointer.result c.in-Some.field-0 _ c.broken.result (one-given c.args.values.now c.argument-pointer.result c.argument-pointer.ensures) c.broken.ensures)
