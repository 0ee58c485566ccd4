use Rattle.std.proofs.Common.{refl}
use Rattle.std.specs.Fmt.{digits}
use Rattle.edit_meaning.specs.EditedFields.{int_field, text_field}
use Rattle.edit_meaning.specs.EditedRecords.{made_on}
use Rattle.edit_meaning.specs.FormatTexts.{format_of}
use Rattle.edit_meaning.specs.Formats.{edits_for}
use Rattle.edit_rows.specs.EmptyTextRows.{rows}
use Rattle.edit_rows.proofs.computed_rows.empty_texts_write_nothing.Goals as goal

pub returns : goal.returns
unfolding rows format_of edits_for made_on int_field text_field digits
returns c = refl
