use Rattle.listed_input.proofs.StoreLaws.{text-stored-forms, forms-then}
use Rattle.taken_items.proofs.values.put_padded.Goals as goal

pub returns-in-Ok-clause-forms : goal.returns-in-Ok-clause-forms
returns-in-Ok-clause-forms c =
    forms-then c.args.run.now c.put_text.new.self c.put_blanks.new.run (text-stored-forms c.args.run.now c.put_text.new.self c.args.pointer c.args.text.now c.in-Ok.ensures) c.put_blanks.ensures.forms
