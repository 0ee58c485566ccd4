use Rattle.std.proofs.Common.{◌≡◌, ◌++◌, drop, map, true}
use Rattle.declaration_rows.specs.GlobalRows.{global_at, block_names}
use Rattle.set_judge.specs.GlobalSteps.{globals_in}
use Rattle.set_judge.proofs.globals.add_group_names.Given as goal

abbrev pub invariant-loop-group : goal.invariant-loop-group
invariant-loop-group l =
    globals_in l.initial.names.items ++ map (global_at l.statement true) (block_names l.groups)
    ≡ globals_in l.names.items ++ map (global_at l.statement true) (block_names (drop l.group-index l.groups))
