use Rattle.std.proofs.Common.{List, ◌++◌, refl, ap, ◌∙◌}
use Rattle.name_table.specs.Named.{texts}
use Rattle.declaration_rows.specs.ReferenceRows.{Reference}
use Rattle.expression_judge.specs.SeenNames.{unit_fact, function_in, dummy_in}
use Rattle.reference_judge.specs.ReferencesSeen.{located, at}
use Rattle.reference_judge.proofs.BindingLaws.{references_within, seen_again, unbound_none}
use Rattle.reference_judge.proofs.statements.add_definition.Goals as goal

pub returns-clause-references : goal.returns-clause-references
unfolding unit_fact function_in dummy_in
returns-clause-references c =
    let s = c.args.statement.now in
    c.in_ok-add_known.ensures
    ∙ ap (λ (rs : List Reference). located c.args.references.now.items ++ at s rs)
    (references_within c.args.unit.now c.args.names.now _ s.body _ _ c.requires.names (λ x. refl) (λ x. refl) (λ x. c.exchange.ensures.known x ∙ c.in_ok-bound.ensures x)
    (ap texts c.as_slice.ensures.value ∙ c.in_ok-dummies.ensures))

pub returns-clause-names : goal.returns-clause-names
unfolding unit_fact function_in dummy_in
returns-clause-names c =
    seen_again c.args.unit.now c.args.names.now _ c.requires.names (λ x. refl) (λ x. refl)
    (λ x. c.exchange-2.ensures.known x ∙ c.exchange.ensures.others x ∙ unbound_none c.args.unit.now c.args.names.now c.requires.names x)
