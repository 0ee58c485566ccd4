use Rattle.std.proofs.Common.{Some, refl}
use Rattle.unit_library.specs.Arguments.{argument}
use Rattle.unit_library.proofs.SameCalls.{held-as}
use Rattle.unit_library.proofs.ArgumentLaws.{one-given}
use Rattle.unit_library.proofs.TransferLaws.{begin-inside}
use Rattle.unit_library.proofs.listed.begin.Goals as goal

pub returns-in-Some : goal.returns-in-Some
returns-in-Some g c =
    held-as _ _ c.args.run.now c.args.run.now c.args.transfer.now (Some c.in-Some.field-0) _ _ c.broken.result c.in-Some.is
    (begin-inside c.args.which _ c.args.run.now (argument c.args.values.now 0) c.in-Some.field-0 _ c.broken.result
    (one-given c.args.values.now (argument c.args.values.now 0) refl) c.broken.ensures)
