use Rattle.std.proofs.Common.{fold, ap, ◌∙◌}
use Rattle.lowered_tree.specs.Shapes.{acting_of, pures_of}
use Rattle.main_translation.specs.Contents.{with_new, own_values}
use Rattle.unit_contents.specs.Parts.{acting_values}
use Rattle.unit_contents.proofs.Lists.{then_ok}
use Rattle.unit_contents.proofs.ConstantLaws.{step-Acts, step-Compute, step-CallFor, step-CallSub, step-other, nothing_added}
use Rattle.unit_contents.proofs.constants.add_step.Goals as goal

pub returns-in-Acts : goal.returns-in-Acts
returns-in-Acts c =
    let values = c.args.values.now.keys in
    then_ok _ _ c.add_acting.result
    (λ added facts tells.
    added facts tells ∙ ap (λ ps. fold with_new values (acting_values facts c.args.kept (acting_of c.in-Acts.acting) (pures_of ps))) c.as_slice.ensures
    ∙ ap (fold with_new values) (step-Acts facts c.args.kept c.args.step.now c.in-Acts.acting c.in-Acts.operands c.in-Acts.field-2 c.in-Acts.is))
    c.add_acting.ensures

pub returns-in-Compute : goal.returns-in-Compute
returns-in-Compute c =
    let values = c.args.values.now.keys in
    then_ok _ _ c.add_own_values.result
    (λ added facts tells.
    added ∙ ap (λ ps. fold with_new values (own_values (pures_of ps))) c.as_slice-in-Compute.ensures
    ∙ ap (fold with_new values) (step-Compute facts c.args.kept c.args.step.now c.in-Compute.field-0 c.in-Compute.field-1 c.in-Compute.operands c.in-Compute.is))
    c.add_own_values.ensures

pub returns-in-CallFor : goal.returns-in-CallFor
returns-in-CallFor c =
    let values = c.args.values.now.keys in
    then_ok _ _ c.add_own_values-in-CallFor.result
    (λ added facts tells.
    added ∙ ap (λ ps. fold with_new values (own_values (pures_of ps))) c.as_slice-in-CallFor.ensures
    ∙ ap (fold with_new values) (step-CallFor facts c.args.kept c.args.step.now c.in-CallFor.field-0 c.in-CallFor.field-1 c.in-CallFor.operands c.in-CallFor.is))
    c.add_own_values-in-CallFor.ensures

pub returns-in-CallSub : goal.returns-in-CallSub
returns-in-CallSub c =
    let values = c.args.values.now.keys in
    then_ok _ _ c.add_own_values-in-CallSub.result
    (λ added facts tells.
    added ∙ ap (λ ps. fold with_new values (own_values (pures_of ps))) c.as_slice-in-CallSub.ensures
    ∙ ap (fold with_new values) (step-CallSub facts c.args.kept c.args.step.now c.in-CallSub.field-0 c.in-CallSub.field-1 c.in-CallSub.operands c.in-CallSub.is))
    c.add_own_values-in-CallSub.ensures

pub returns-in_default : goal.returns-in_default
returns-in_default c =
    λ facts tells. nothing_added c.args.values.now.keys _ (step-other facts c.args.kept c.args.step.now c.in_default.not-Acts c.in_default.not-Compute c.in_default.not-CallFor c.in_default.not-CallSub)
