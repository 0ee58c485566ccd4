use Rattle.std.proofs.Common.{◌≡◌, ◌++◌, take}
use Rattle.c_text.specs.Printed.{printed_stmts}
use Rattle.c_text.proofs.statement.+statement.Given as goal

abbrev pub invariant-print_inner-loop-one : goal.invariant-print_inner-loop-one
invariant-print_inner-loop-one l =
    l.out.items ≡ l.initial.out.items ++ printed_stmts (take l.one-index l.list) l.inner
