use Rattle.main_file_laws.proofs.BuiltItems.{mains_have_their_items}
use Rattle.main_file_laws.proofs.files.mains_have_their_items.Goals as goal

pub returns : goal.returns
returns c = mains_have_their_items
