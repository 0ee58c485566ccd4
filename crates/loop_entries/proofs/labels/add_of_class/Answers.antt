use Rattle.std.proofs.Common.{ap, ◌∙◌}
use Rattle.loop_ranges.proofs.found_rows.Walks.{put_as}
use Rattle.loop_entries.specs.PassedLabels.{constant_labels, own_labels}
use Rattle.loop_entries.proofs.LabelForms.{nothing_added}
use Rattle.loop_entries.proofs.TellsLemmas.{class_Constant, class_Function, class_other}
use Rattle.loop_entries.proofs.labels.add_of_class.Goals as goal

pub returns-in-Constant : goal.returns-in-Constant
returns-in-Constant c = put_as c.add_constant.result _ _ _ _ (ap constant_labels c.constant.ensures ∙ class_Constant _ _ _ c.in-Constant.ensures) c.add_constant.ensures

pub returns-in-StatementFunction : goal.returns-in-StatementFunction
returns-in-StatementFunction c = put_as c.add_own.result _ _ _ _ (ap own_labels c.get.ensures ∙ class_Function _ _ _ c.in-StatementFunction.ensures) c.add_own.ensures

pub returns-in_default : goal.returns-in_default
returns-in_default c =
    nothing_added _ _ (class_other _ _ _ (λ is. c.in_default.not-Constant (c.class.ensures ∙ is)) (λ is. c.in_default.not-StatementFunction (c.class.ensures ∙ is)))
