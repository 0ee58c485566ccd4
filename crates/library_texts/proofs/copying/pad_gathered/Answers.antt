use Rattle.std.proofs.Common.{◌-◌, refl}
use Rattle.library_texts.proofs.GatheredLemmas.{padded, cut}
use Rattle.library_texts.proofs.copying.pad_gathered.Goals as goal

pub returns-then-used-size : goal.returns-then-used-size
returns-then-used-size c text holds =
    padded c.args.buffer.now text c.fill.new.self c.args.used c.args.size (c.args.size - c.args.used) c.requires.used c.requires.size holds c.if-used-size.true refl
    (c.fill.ensures.after (λ y is. is))

pub returns-else-used-size : goal.returns-else-used-size
returns-else-used-size c text holds = cut c.args.buffer.now text c.args.used c.args.size c.requires.used c.requires.size holds c.if-used-size.false
