use Rattle.listed_input.proofs.StoreLaws.{text-forms}
use Rattle.internal_input.proofs.TextLaws.{part-past}
use Rattle.internal_input.proofs.texts.store_part.Goals as goal

pub returns-then-done-buffer-clause-forms : goal.returns-then-done-buffer-clause-forms
returns-then-done-buffer-clause-forms c = text-forms c.args.pointer _ c.args.run.now c.put_text.new.self c.put_text.result c.put_text.ensures

pub returns-else-done-buffer-clause-stores : goal.returns-else-done-buffer-clause-stores
returns-else-done-buffer-clause-stores c =
    part-past c.args.buffer.now c.args.pointer c.args.done c.args.run.now c.args.run.now c.past_all.result c.requires c.if-done-buffer.false c.past_all.ensures
