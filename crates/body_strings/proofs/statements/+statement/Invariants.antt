use Rattle.std.proofs.Common.{◌≡◌, ◌++◌, drop}
use Rattle.expression_linker.specs.StringsSeen.{texts}
use Rattle.body_strings.specs.Strings.{of_statements}
use Rattle.body_strings.proofs.statements.+statement.Given as goal

abbrev pub invariant-put_statements-loop-statement : goal.invariant-put_statements-loop-statement
invariant-put_statements-loop-statement l =
    texts l.initial.out.items ++ of_statements l.list ≡ texts l.out.items ++ of_statements (drop l.statement-index l.list)
