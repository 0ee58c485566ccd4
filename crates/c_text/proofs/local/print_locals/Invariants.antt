use Rattle.std.proofs.Common.{◌≡◌, ◌++◌, drop, None}
use Rattle.c_text.specs.Declarations.{locals_after}
use Rattle.c_text.proofs.local.print_locals.Given as goal

-- what is written and what is left to write are all of it
abbrev pub invariant-loop-local : goal.invariant-loop-local
invariant-loop-local l =
    l.out.items ++ locals_after l.before (drop l.local-index l.locals) ≡ l.initial.out.items ++ locals_after None l.locals
