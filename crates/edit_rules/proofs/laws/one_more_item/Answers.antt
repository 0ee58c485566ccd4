use Rattle.edit_rules.proofs.EditLaws.{edits_one_more}
use Rattle.edit_rules.proofs.laws.one_more_item.Goals as goal

pub returns : goal.returns
returns c format items = edits_one_more format items
