use Rattle.std.proofs.Common.{◌≡◌, ◌++◌, [], List, drop}
use Rattle.declaration_rows.specs.GlobalRows.{Global, global_rows}
use Rattle.set_judge.specs.GlobalSteps.{globals_in, AreSeen}
use Rattle.set_judge.proofs.judge.add_name_rows.Given as goal

abbrev pub invariant-loop-name : goal.invariant-loop-name
invariant-loop-name l = record {
  before : List Global;
  seen : AreSeen l.seen before;
  rows : l.initial.found.items ++ global_rows [] (globals_in l.names) ≡ l.found.items ++ global_rows before (globals_in (drop l.name-index l.names));
}
