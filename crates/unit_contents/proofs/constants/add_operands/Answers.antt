use Rattle.std.proofs.Common.{fold, ap, ◌∙◌, arith}
use Rattle.main_translation.specs.Contents.{with_new}
use Rattle.unit_contents.proofs.Lists.{then_ok}
use Rattle.unit_contents.proofs.ConstantLaws.{list-one, list-none, list-many, nothing_added}
use Rattle.unit_contents.proofs.constants.add_operands.Goals as goal

pub returns-in-len1 : goal.returns-in-len1
returns-in-len1 c =
    then_ok _ _ c.add_item.result
    (λ added facts tells.
    added facts tells
    ∙ ap (fold with_new c.args.values.now.keys)
    (list-one facts c.args.kept c.args.operands.now c.item-item.result (omega arith) (omega arith) c.item-item.is))
    c.add_item.ensures

pub returns-in_default : goal.returns-in_default
returns-in_default c = λ facts tells. nothing_added c.args.values.now.keys _ (list-none facts c.args.kept c.args.operands.now (omega arith))

pub returns-in_default-2 : goal.returns-in_default-2
returns-in_default-2 c = λ facts tells. nothing_added c.args.values.now.keys _ (list-many facts c.args.kept c.args.operands.now (omega arith))
