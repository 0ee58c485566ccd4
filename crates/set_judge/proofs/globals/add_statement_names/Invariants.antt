use Rattle.std.proofs.Common.{◌≡◌, ◌++◌, drop}
use Rattle.declaration_rows.specs.GlobalRows.{globals_of_statements}
use Rattle.set_judge.specs.GlobalSteps.{globals_in}
use Rattle.set_judge.proofs.globals.add_statement_names.Given as goal

abbrev pub invariant-loop-statement : goal.invariant-loop-statement
invariant-loop-statement l =
    globals_in l.initial.names.items ++ globals_of_statements l.statements
    ≡ globals_in l.names.items ++ globals_of_statements (drop l.statement-index l.statements)
