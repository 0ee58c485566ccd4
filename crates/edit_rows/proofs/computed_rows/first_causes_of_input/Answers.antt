use Rattle.std.proofs.Common.{refl}
use Rattle.edit_meaning.specs.FormatTexts.{format_of}
use Rattle.edit_meaning.specs.Formats.{edits_for}
use Rattle.edit_rows.specs.InputRows.{rows}
use Rattle.edit_meaning.specs.TakenFields.{int_in, logical_in, text_in}
use Rattle.edit_meaning.specs.TakenRecords.{taken}
use Rattle.edit_rows.proofs.computed_rows.first_causes_of_input.Goals as goal

pub returns : goal.returns
unfolding rows format_of edits_for taken int_in logical_in text_in
returns c = refl
