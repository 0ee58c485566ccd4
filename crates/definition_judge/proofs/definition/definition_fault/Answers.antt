use Rattle.std.proofs.Common.{refl, ap, ◌∙◌}
use Rattle.f_tree.specs.declared.names.Basic.{Basic}
use Rattle.declaration_rows.specs.NameRows.{own_attributes}
use Rattle.expression_judge.specs.declared.names.Names.{Names}
use Rattle.expression_judge.specs.FoundSteps.{with_wanted, judged_by}
use Rattle.name_table.specs.Named.{texts}
use Rattle.definition_judge.proofs.DefinitionLaws.{definition_judged}
use Rattle.definition_judge.proofs.FunctionLemmas.{keeps_by, bound_in}
use Rattle.definition_judge.proofs.definition.definition_fault.Goals as goal

pub returns-clause-fault : goal.returns-clause-fault
returns-clause-fault c =
    let u = c.args.unit.now in
    let old = c.args.names.now in
    let names : Names = record old { dummies = c.bind_dummies.new.table } in
    let ds = texts c.args.dummies.now in
    definition_judged u old names (record { name = c.args.name.now; dummies = ds; body = c.args.body.now }) c.body_fault-expression.result c.in_ok-arguments.arguments _ c.requires.names
    (keeps_by old names refl refl) (bound_in names (own_attributes u) ds c.in_ok-bind_dummies.ensures)
    (c.body_fault-expression.ensures ∙ ap (λ (b : Basic). with_wanted b (judged_by names c.args.body.now)) c.own_basic.ensures) c.in_ok-arguments.ensures c.lesser_of.ensures

pub returns-clause-names : goal.returns-clause-names
returns-clause-names c = keeps_by c.args.names.now _ refl refl
