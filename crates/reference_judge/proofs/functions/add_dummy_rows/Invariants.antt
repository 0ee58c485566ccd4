use Rattle.std.proofs.Common.{◌≡◌, ◌++◌, drop}
use Rattle.declaration_rows.specs.ReferenceRows.{dummy_procedure_rows}
use Rattle.name_table.specs.Named.{texts}
use Rattle.reference_judge.proofs.functions.add_dummy_rows.Given as goal

abbrev pub invariant-loop-name : goal.invariant-loop-name
invariant-loop-name l =
    l.initial.found.items ++ dummy_procedure_rows l.unit (texts l.listed) ≡ l.found.items ++ dummy_procedure_rows l.unit (texts (drop l.name-index l.listed))
