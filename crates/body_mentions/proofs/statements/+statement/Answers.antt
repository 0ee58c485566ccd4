use Rattle.body_mentions.proofs.ArmLaws.{with-else}
use Rattle.body_mentions.proofs.statements.+statement.Goals as goal

pub in_statement-returns-in-Some : goal.in_statement-returns-in-Some
in_statement-returns-in-Some t c =
    with-else c.args.names.now c.args.statement.now _ _ _ _ c.as_slice-in-If.result.now c.as_slice-in-Some.result.now c.in_expression-in-If.result c.in_statements-in-If.result
    c.either-begun.result c.in_statements-in-Some.result c.either-in-Some.result c.in-If.is c.in-Some.is c.as_slice-in-If.ensures c.as_slice-in-Some.ensures c.in_expression-in-If.ensures
    c.in_statements-in-If.ensures c.either-begun.ensures c.in_statements-in-Some.ensures c.either-in-Some.ensures
