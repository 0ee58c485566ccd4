use Rattle.std.proofs.Common.{None, refl}
use Rattle.unit_library.specs.Arguments.{argument}
use Rattle.unit_library.proofs.SameCalls.{held-as}
use Rattle.unit_library.proofs.ItemLaws.{items-outside}
use Rattle.unit_library.proofs.listed.listed_items.Goals as goal

pub returns-in-None : goal.returns-in-None
returns-in-None g c =
    held-as _ _ c.args.run.now c.args.run.now c.args.transfer.now None _ _ c.broken.result c.in-None.is
    (items-outside _ c.args.run.now (argument c.args.values.now 0) (argument c.args.values.now 1) (argument c.args.values.now 2) (argument c.args.values.now 3) _ c.broken.result refl
    c.broken.ensures)

pub returns-in-Some-InternalOutput : goal.returns-in-Some-InternalOutput
returns-in-Some-InternalOutput g c = c.put_internal.ensures _

pub returns-in-Some-InternalInput : goal.returns-in-Some-InternalInput
returns-in-Some-InternalInput g c = c.read_from_file.ensures _

pub returns-in-Some-FormattedOutput : goal.returns-in-Some-FormattedOutput
returns-in-Some-FormattedOutput g c = c.listed_in_formatted.ensures _

pub returns-in-Some-FormattedInput : goal.returns-in-Some-FormattedInput
returns-in-Some-FormattedInput g c = c.listed_in_formatted-in-Some-FormattedInput.ensures _

pub returns-in-Some-InternalFormattedInput : goal.returns-in-Some-InternalFormattedInput
returns-in-Some-InternalFormattedInput g c = c.listed_in_formatted-in-Some-InternalFormattedInput.ensures _

pub returns-in-Some-InternalFormatted : goal.returns-in-Some-InternalFormatted
returns-in-Some-InternalFormatted g c = c.listed_in_formatted-in-Some-InternalFormatted.ensures _
