use Rattle.unit_library.specs.Arguments.{argument}
use Rattle.std.proofs.Common.{refl}
use Rattle.unit_library.proofs.ArgumentLaws.{four-given}
use Rattle.unit_library.proofs.FormattedLaws.{listed-inside}
use Rattle.unit_library.proofs.formatted.listed_in_formatted.Goals as goal

pub returns : goal.returns
returns c =
    listed-inside _ c.args.run.now c.argument-kind.result c.argument-count.result (argument c.args.values.now 2) c.argument-size.result c.listed_fault.result c.args.transfer.now c.broken.result
    (four-given c.args.values.now c.argument-kind.result c.argument-count.result (argument c.args.values.now 2) c.argument-size.result c.argument-kind.ensures c.argument-count.ensures refl
    c.argument-size.ensures) c.requires c.broken.ensures c.listed_fault.ensures
