use Rattle.std.proofs.Common.{◌≡◌, ◌++◌, drop}
use Rattle.c_tree.specs.LinkedExpressions.{linked_all}
use Rattle.expression_linker.specs.StringsSeen.{texts}
use Rattle.expression_linker.proofs.strings.put_all_strings.Given as goal

abbrev pub invariant-loop-e : goal.invariant-loop-e
invariant-loop-e l =
    texts l.initial.out.items ++ (linked_all l.list).strings ≡ texts l.out.items ++ (linked_all (drop l.e-index l.list)).strings
