use Rattle.std.proofs.Common.{refl}
use Rattle.std.specs.Fmt.{digits}
use Rattle.edit_rows.specs.ComparedRows.{rows}
use Rattle.edit_meaning.specs.EditedFields.{int_field, logical_field, text_field}
use Rattle.edit_meaning.specs.EditedRecords.{made_on}
use Rattle.edit_meaning.specs.FormatTexts.{format_of}
use Rattle.edit_meaning.specs.Formats.{edits_for}
use Rattle.edit_rows.proofs.compared_rows.compared_with_another_processor.Goals as goal

pub returns : goal.returns
unfolding rows format_of edits_for made_on int_field logical_field text_field digits
returns c = refl
