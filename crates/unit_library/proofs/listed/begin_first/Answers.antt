use Rattle.unit_library.specs.declared.functions.TransferType.TheVariants as moved
use Rattle.unit_library.proofs.KindLaws.{begin-as}
use Rattle.unit_library.proofs.listed.begin_first.Goals as goal

pub returns-in-InternalListedOutput : goal.returns-in-InternalListedOutput
returns-in-InternalListedOutput g c = begin-as c.args.which moved.InternalListedOutput c.in-InternalListedOutput.is (c.begin_internal.ensures _)

pub returns-in-InternalListedInput : goal.returns-in-InternalListedInput
returns-in-InternalListedInput g c = begin-as c.args.which moved.InternalListedInput c.in-InternalListedInput.is (c.begin_from_file.ensures _)

pub returns-in-FormattedOutput : goal.returns-in-FormattedOutput
returns-in-FormattedOutput g c = begin-as c.args.which moved.FormattedOutput c.in-FormattedOutput.is c.begin_formatted.ensures

pub returns-in-FormattedInput : goal.returns-in-FormattedInput
returns-in-FormattedInput g c = begin-as c.args.which moved.FormattedInput c.in-FormattedInput.is c.begin_reading.ensures

pub returns-in-InternalFormattedOutput : goal.returns-in-InternalFormattedOutput
returns-in-InternalFormattedOutput g c = begin-as c.args.which moved.InternalFormattedOutput c.in-InternalFormattedOutput.is (c.begin_in_file.ensures _)

pub returns-in-InternalFormattedInput : goal.returns-in-InternalFormattedInput
returns-in-InternalFormattedInput g c = begin-as c.args.which moved.InternalFormattedInput c.in-InternalFormattedInput.is (c.begin_reading_file.ensures _)
