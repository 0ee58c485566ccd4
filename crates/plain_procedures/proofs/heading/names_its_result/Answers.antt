use Rattle.std.proofs.Common.{ap, ◌∙◌}
use Rattle.name_facts.specs.GivenFacts.{fact_in}
use Rattle.plain_procedures.proofs.Headings.{class-known, result-then, result-else}
use Rattle.plain_procedures.proofs.heading.names_its_result.Goals as goal

pub returns-then-not-is_function : goal.returns-then-not-is_function
returns-then-not-is_function c = result-then c.args.unit.now c.is_function.result c.is_function.ensures c.if-not-is_function.true

pub returns-else-not-is_function : goal.returns-else-not-is_function
returns-else-not-is_function c =
    result-else c.args.unit.now c.is_function.result c.is_result_class.result c.class.result c.is_function.ensures c.if-not-is_function.false
    (c.class.ensures ∙ ap (λ x. (fact_in c.args.table.now x).class) c.own_name.ensures ∙ class-known c.args.unit.now c.args.table.now _ (record { facts = c.requires.facts })) c.is_result_class.ensures
