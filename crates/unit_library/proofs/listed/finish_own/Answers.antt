use Rattle.unit_library.specs.declared.transfers.TransferInProgress.TheVariants as going
use Rattle.unit_library.proofs.KindLaws.{finish-as}
use Rattle.unit_library.proofs.listed.finish_own.Goals as goal

pub returns-in-ListedOutput : goal.returns-in-ListedOutput
returns-in-ListedOutput g c = finish-as c.args.going (going.ListedOutput c.in-ListedOutput.output) c.in-ListedOutput.is (c.finish_listed.ensures c.args.run.now)

pub returns-in-ListedInput : goal.returns-in-ListedInput
returns-in-ListedInput g c = finish-as c.args.going (going.ListedInput c.in-ListedInput.input) c.in-ListedInput.is (c.finish_input.ensures c.args.run.now _)

pub returns-in-InternalOutput : goal.returns-in-InternalOutput
returns-in-InternalOutput g c = finish-as c.args.going (going.InternalOutput c.in-InternalOutput.output) c.in-InternalOutput.is (c.finish_internal.ensures _)

pub returns-in-InternalInput : goal.returns-in-InternalInput
returns-in-InternalInput g c = finish-as c.args.going (going.InternalInput c.in-InternalInput.input) c.in-InternalInput.is (c.finish_from_file.ensures c.args.run.now _)

pub returns-in-FormattedOutput : goal.returns-in-FormattedOutput
returns-in-FormattedOutput g c = finish-as c.args.going (going.FormattedOutput c.in-FormattedOutput.held) c.in-FormattedOutput.is (c.finish_formatted.ensures c.args.run.now)

pub returns-in-FormattedInput : goal.returns-in-FormattedInput
returns-in-FormattedInput g c = finish-as c.args.going (going.FormattedInput c.in-FormattedInput.held) c.in-FormattedInput.is (c.finish_reading.ensures c.args.run.now)

pub returns-in-InternalFormatted : goal.returns-in-InternalFormatted
returns-in-InternalFormatted g c = finish-as c.args.going (going.InternalFormatted c.in-InternalFormatted.held) c.in-InternalFormatted.is (c.finish_in_file.ensures _)

pub returns-in-InternalFormattedInput : goal.returns-in-InternalFormattedInput
returns-in-InternalFormattedInput g c = finish-as c.args.going (going.InternalFormattedInput c.in-InternalFormattedInput.held) c.in-InternalFormattedInput.is (c.finish_reading_file.ensures _)
