use Rattle.std.proofs.Common.{refl}
use Rattle.std.specs.Fmt.{digits}
use Rattle.edit_meaning.specs.EditedFields.{int_field, logical_field, text_field}
use Rattle.edit_meaning.specs.FormatTexts.{format_of}
use Rattle.edit_meaning.specs.Formats.{edits_for}
use Rattle.edit_meaning.specs.ReadBack.{stand_whole, follow_one_another}
use Rattle.edit_rows.specs.ReadBackRows.{rows}
use Rattle.edit_rows.proofs.computed_rows.values_that_stand_whole.Goals as goal

pub returns : goal.returns
unfolding rows format_of edits_for stand_whole follow_one_another int_field logical_field text_field digits
returns c = refl
