use Rattle.std.proofs.Common.{refl}
use Rattle.edit_rows.specs.ListErrorRows.{rows}
use Rattle.edit_meaning.specs.ListInput.{given}
use Rattle.edit_meaning.specs.ListItems.{items, items_from}
use Rattle.edit_rows.proofs.computed_rows.errors_of_list_input.Goals as goal

pub returns : goal.returns
unfolding rows items items_from given
returns c = refl
