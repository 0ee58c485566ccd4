use Rattle.std.proofs.Common.{◌≡◌, ◌++◌, take}
use Rattle.c_text.specs.Printed.{printed_functions}
use Rattle.c_text.proofs.file.print_functions.Given as goal

abbrev pub invariant-loop-function : goal.invariant-loop-function
invariant-loop-function l =
    l.out.items ≡ l.initial.out.items ++ printed_functions (take l.function-index l.functions)
