use Rattle.std.proofs.Common.{◌≡◌, ◌++◌, drop}
use Rattle.reference_judge.specs.PassedFunctions.{passed_from}
use Rattle.reference_judge.proofs.functions.add_passed_rows.Given as goal

abbrev pub invariant-loop-statement : goal.invariant-loop-statement
invariant-loop-statement l =
    l.initial.found.items ++ passed_from l.signs l.names l.statements ≡ l.found.items ++ passed_from l.signs l.names (drop l.statement-index l.statements)
