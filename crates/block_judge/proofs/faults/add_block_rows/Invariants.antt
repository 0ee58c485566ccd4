use Rattle.std.proofs.Common.{◌≡◌, ◌++◌, drop}
use Rattle.f_tree.specs.declared.names.Options.{Options}
use Rattle.f_tree.specs.Lines.{unit_read}
use Rattle.declaration_rows.specs.BlockRows.{block_rows_from}
use Rattle.block_judge.proofs.faults.add_block_rows.Given as goal

abbrev pub invariant-loop-place : goal.invariant-loop-place
invariant-loop-place l = (options : Options) →
    l.initial.found.items ++ block_rows_from l.unit (unit_read options l.unit) 0 l.unit.statements
    ≡ l.found.items ++ block_rows_from l.unit (unit_read options l.unit) l.place (drop l.place l.unit.statements)
