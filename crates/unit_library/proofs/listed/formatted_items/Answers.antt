use Rattle.std.proofs.Common.{None, Some, refl}
use Rattle.unit_library.specs.Arguments.{argument}
use Rattle.unit_library.proofs.SameCalls.{held-as}
use Rattle.unit_library.proofs.ArgumentLaws.{three-given}
use Rattle.unit_library.proofs.ItemLaws.{format-outside, format-inside}
use Rattle.unit_library.proofs.listed.formatted_items.Goals as goal

pub returns-in-None : goal.returns-in-None
returns-in-None g c =
    held-as _ _ c.args.run.now c.args.run.now c.args.transfer.now None _ _ c.broken.result c.in-None.is
    (format-outside _ c.args.run.now c.argument-count.result (argument c.args.values.now 1) c.argument-size.result c.broken.result
    (three-given c.args.values.now c.argument-count.result (argument c.args.values.now 1) c.argument-size.result c.argument-count.ensures refl c.argument-size.ensures) c.broken.ensures _)

pub returns-in_default : goal.returns-in_default
returns-in_default g c =
    held-as _ _ c.args.run.now c.args.run.now c.args.transfer.now (Some c.in-Some.going) _ _ c.broken-in_default.result c.in-Some.is
    (format-inside _ c.args.run.now c.argument-count.result (argument c.args.values.now 1) c.argument-size.result c.formatted_fault.result c.in-Some.going c.broken-in_default.result
    (three-given c.args.values.now c.argument-count.result (argument c.args.values.now 1) c.argument-size.result c.argument-count.ensures refl c.argument-size.ensures)
    c.broken-in_default.ensures (record { on_unit = c.in_default.not-FormattedOutput; from_unit = c.in_default.not-FormattedInput; in_file = c.in_default.not-InternalFormatted; from_file = c.in_default.not-InternalFormattedInput }) c.formatted_fault.ensures _)

pub returns-in-InternalFormatted : goal.returns-in-InternalFormatted
returns-in-InternalFormatted g c = c.put_in_file.ensures _

pub returns-in-InternalFormattedInput : goal.returns-in-InternalFormattedInput
returns-in-InternalFormattedInput g c = c.read_formatted_file.ensures _
