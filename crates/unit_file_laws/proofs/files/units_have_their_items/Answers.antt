use Rattle.unit_file_laws.proofs.BuiltItems.{units_have_their_items}
use Rattle.unit_file_laws.proofs.files.units_have_their_items.Goals as goal

pub returns : goal.returns
returns c = units_have_their_items
