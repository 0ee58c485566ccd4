use Rattle.std.proofs.Common.{◌≡◌, ◌++◌, take}
use Rattle.std.specs.List.{flat_map}
use Rattle.c_text.specs.Printed.{case_line}
use Rattle.c_text.proofs.statement.print_switch.Given as goal

abbrev pub invariant-loop-case : goal.invariant-loop-case
invariant-loop-case l =
    l.out.items ≡ l.initial.out.items ++ flat_map (case_line l.inner) (take l.case-index l.cases)
