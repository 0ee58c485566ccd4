use Rattle.expression_linker.specs.StringsSeen.{texts}
use Rattle.body_strings.proofs.ArmLaws.{on-ok, with-else}
use Rattle.body_strings.proofs.statements.+statement.Goals as goal

pub put_statement-returns-in-Some : goal.put_statement-returns-in-Some
put_statement-returns-in-Some t c =
    on-ok c.put_statements-in-Some.result c.put_statements-in-Some.ensures
    (λ last. with-else c.args.statement.now _ _ _ _ c.as_slice-in-If.result.now c.as_slice-in-Some.result.now
    (texts c.args.out.now.items) (texts c.put_expression-in-If.new.out.items) (texts c.put_statements-in-If.new.out.items) (texts c.put_statements-in-Some.new.out.items)
    c.in-If.is c.in-Some.is c.as_slice-in-If.ensures c.as_slice-in-Some.ensures c.in_ok-put_expression-in-If.ensures c.in_ok-put_statements-in-If.ensures last)
