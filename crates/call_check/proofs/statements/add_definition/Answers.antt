use Rattle.std.proofs.Common.{List, ◌++◌, refl, ap, ◌∙◌}
use Rattle.name_table.specs.Named.{texts}
use Rattle.expression_judge.specs.SeenNames.{unit_fact, function_in, dummy_in}
use Rattle.reference_judge.proofs.BindingLaws.{seen_again, unbound_none}
use Rattle.call_shapes.specs.declared.shapes.NamedShape.{NamedShape}
use Rattle.call_check.proofs.CallLaws.{calls_within_definition}
use Rattle.call_check.proofs.statements.add_definition.Goals as goal

pub returns-clause-calls : goal.returns-clause-calls
unfolding unit_fact function_in dummy_in
returns-clause-calls c =
    c.in_ok-add_known.ensures
    ∙ ap (λ (cs : List NamedShape). c.args.calls.now.items ++ cs)
    (calls_within_definition c.args.unit.now c.args.names.now _ c.args.body.now _ _ c.requires.names (λ x. refl) (λ x. refl) (λ x. c.exchange.ensures.known x ∙ c.in_ok-bound.ensures x)
    (ap texts c.as_slice.ensures.value ∙ c.in_ok-dummies.ensures))

pub returns-clause-names : goal.returns-clause-names
unfolding unit_fact function_in dummy_in
returns-clause-names c =
    seen_again c.args.unit.now c.args.names.now _ c.requires.names (λ x. refl) (λ x. refl)
    (λ x. c.exchange-2.ensures.known x ∙ c.exchange.ensures.others x ∙ unbound_none c.args.unit.now c.args.names.now c.requires.names x)
