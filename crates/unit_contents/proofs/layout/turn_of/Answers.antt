use Rattle.unit_contents.proofs.LayoutLaws.{turn-Unless, turn-other}
use Rattle.unit_contents.proofs.layout.turn_of.Goals as goal

pub returns-in-Unless : goal.returns-in-Unless
returns-in-Unless c = turn-Unless c.args.step.now c.in-Unless.field-0 c.in-Unless.count c.checked_sub.result c.in-Unless.is c.checked_sub.ensures

pub returns-in_default : goal.returns-in_default
returns-in_default c = turn-other c.args.step.now c.in_default.not-Unless
