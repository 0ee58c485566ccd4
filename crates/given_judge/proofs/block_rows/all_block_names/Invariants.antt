use Rattle.std.proofs.Common.{◌≡◌, ◌++◌, drop}
use Rattle.name_table.specs.Named.{texts}
use Rattle.declaration_rows.specs.GivenRows.{all_block_names}
use Rattle.given_judge.proofs.block_rows.all_block_names.Given as goal

abbrev pub invariant-loop-statement : goal.invariant-loop-statement
invariant-loop-statement l = all_block_names l.statements ≡ texts l.names.items ++ all_block_names (drop l.statement-index l.statements)
