use Rattle.std.proofs.Common.{◌≡◌, ◌++◌}
use Rattle.c_text.specs.Printed.{indent}
use Rattle.c_text.proofs.out.print_indent.Given as goal

abbrev pub invariant-loop : goal.invariant-loop
invariant-loop l = l.out.items ≡ l.initial.out.items ++ indent l.counter
