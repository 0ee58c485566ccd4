use Rattle.item_deeds.proofs.FormLaws.{stored-forms}
use Rattle.internal_input.proofs.items.take_number.Goals as goal

pub returns-in-Ok-clause-forms : goal.returns-in-Ok-clause-forms
returns-in-Ok-clause-forms c = stored-forms c.args.run.now c.store.new.self _ _ c.in-Ok.ensures
