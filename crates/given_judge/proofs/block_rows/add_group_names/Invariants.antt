use Rattle.std.proofs.Common.{◌≡◌, ◌++◌, drop}
use Rattle.name_table.specs.Named.{texts}
use Rattle.declaration_rows.specs.GlobalRows.{block_names}
use Rattle.given_judge.proofs.block_rows.add_group_names.Given as goal

abbrev pub invariant-loop-group : goal.invariant-loop-group
invariant-loop-group l =
    texts l.initial.names.items ++ block_names l.groups
    ≡ texts l.names.items ++ block_names (drop l.group-index l.groups)
