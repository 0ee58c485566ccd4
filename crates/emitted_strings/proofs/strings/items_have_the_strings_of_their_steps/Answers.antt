use Rattle.emitted_strings.proofs.PlainItems.{each_item_has_the_string}
use Rattle.emitted_strings.proofs.strings.items_have_the_strings_of_their_steps.Goals as goal

pub returns : goal.returns
returns c = each_item_has_the_string
