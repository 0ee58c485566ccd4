use Rattle.std.proofs.Common.{fold, ap, ◌∙◌}
use Rattle.lowered_tree.specs.Shapes.{pures_of}
use Rattle.main_translation.specs.Contents.{with_new}
use Rattle.unit_contents.proofs.Lists.{then_ok}
use Rattle.unit_contents.proofs.ConstantLaws.{acting-Takes, acting-other, nothing_added}
use Rattle.unit_contents.proofs.constants.add_acting.Goals as goal

pub returns-in-Takes : goal.returns-in-Takes
returns-in-Takes c =
    then_ok _ _ c.add_operands.result
    (λ added facts tells.
    added facts tells ∙ ap (fold with_new c.args.values.now.keys) (acting-Takes facts c.args.kept c.args.acting.now (pures_of c.args.operands.now) c.in-Takes.is))
    c.add_operands.ensures

pub returns-in_default : goal.returns-in_default
returns-in_default c =
    λ facts tells. nothing_added c.args.values.now.keys _ (acting-other facts c.args.kept c.args.acting.now (pures_of c.args.operands.now) c.in_default.not-Takes)
