use Rattle.std.proofs.Common.{◌≤◌, length, arith}
use Rattle.listed_input.proofs.StoreLaws.{text-forms}
use Rattle.internal_input.proofs.TextLaws.{whole-stored, whole-past}
use Rattle.internal_input.proofs.texts.store_whole.Goals as goal

pub returns-then-size-buffer-clause-stores : goal.returns-then-size-buffer-clause-stores
returns-then-size-buffer-clause-stores c =
    let fits : c.args.done ≤ length c.args.buffer.now = omega (arith, c.requires.within, c.if-size-buffer.true) in
    whole-stored c.args.buffer.now c.put_blanks.new.buffer c.args.pointer c.args.size c.args.done c.args.run.now c.put_text.new.self c.put_text.result c.put_blanks.ensures fits c.put_text.ensures

pub returns-then-size-buffer-clause-forms : goal.returns-then-size-buffer-clause-forms
returns-then-size-buffer-clause-forms c = text-forms c.args.pointer _ c.args.run.now c.put_text.new.self c.put_text.result c.put_text.ensures

pub returns-else-size-buffer-clause-stores : goal.returns-else-size-buffer-clause-stores
returns-else-size-buffer-clause-stores c =
    whole-past c.args.buffer.now c.args.pointer c.args.size c.args.done c.args.run.now c.args.run.now c.past_all.result c.requires.room c.if-size-buffer.false c.requires.within c.past_all.ensures
