use Rattle.std.proofs.Common.{fold, ap, ◌∙◌}
use Rattle.lowered_tree.specs.Shapes.{pures_of}
use Rattle.unit_file.specs.UnitItems.{procedures_named}
use Rattle.unit_translation.specs.UnitContents.{with_name}
use Rattle.unit_contents.proofs.Lists.{then_ok}
use Rattle.unit_contents.proofs.ProcedureLaws.{step-CallFor, step-CallSub, step-other}
use Rattle.unit_contents.proofs.procedures.add_step.Goals as goal

pub returns-in-CallFor : goal.returns-in-CallFor
returns-in-CallFor c =
    let names = c.args.names.now.items in
    then_ok _ _ c.add_named.result
    (λ added facts tells.
    added facts tells ∙ ap (λ x. fold with_name names (procedures_named facts x (pures_of c.as_slice-in-CallFor.result.now))) c.as_slice.ensures
    ∙ ap (λ ps. fold with_name names (procedures_named facts c.in-CallFor.callee.name (pures_of ps))) c.as_slice-in-CallFor.ensures
    ∙ ap (fold with_name names) (step-CallFor facts c.args.step.now c.in-CallFor.field-0 c.in-CallFor.callee c.in-CallFor.operands c.in-CallFor.is))
    c.add_named.ensures

pub returns-in-CallSub : goal.returns-in-CallSub
returns-in-CallSub c =
    let names = c.args.names.now.items in
    then_ok _ _ c.add_named-in-CallSub.result
    (λ added facts tells.
    added facts tells ∙ ap (λ x. fold with_name names (procedures_named facts x (pures_of c.as_slice-in-CallSub-2.result.now))) c.as_slice-in-CallSub.ensures
    ∙ ap (λ ps. fold with_name names (procedures_named facts c.in-CallSub.name (pures_of ps))) c.as_slice-in-CallSub-2.ensures
    ∙ ap (fold with_name names) (step-CallSub facts c.args.step.now c.in-CallSub.field-0 c.in-CallSub.name c.in-CallSub.operands c.in-CallSub.is))
    c.add_named-in-CallSub.ensures

pub returns-in_default : goal.returns-in_default
returns-in_default c = λ facts tells. step-other facts c.args.step.now c.args.names.now.items c.in_default.not-CallFor c.in_default.not-CallSub
