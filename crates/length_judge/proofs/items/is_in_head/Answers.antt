use Rattle.std.proofs.Common.{◌∙◌}
use Rattle.length_judge.proofs.ItemLaws.{own_there, dummy_there}
use Rattle.length_judge.proofs.items.is_in_head.Goals as goal

pub returns-then-has : goal.returns-then-has
returns-then-has c = c.if-has.true ∙ own_there c.args.unit.now c.args.signs.now c.args.name.now c.has.result c.requires c.has.ensures c.if-has.true

pub returns-else-has : goal.returns-else-has
returns-else-has c =
    dummy_there c.args.unit.now c.args.signs.now c.args.name.now c.has.result c.has-else-has.result c.requires c.has.ensures c.if-has.false c.has-else-has.ensures
