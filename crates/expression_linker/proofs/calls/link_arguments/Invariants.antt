use Rattle.std.proofs.Common.{◌≡◌, ◌+◌, drop, length}
use Rattle.c_tree.specs.LinkedExpressions.{linked_all}
use Rattle.expression_linker.specs.NamesInScope.{scope_of}
use Rattle.expression_linker.proofs.ArgumentLaws.{found_first}
use Rattle.expression_linker.proofs.calls.link_arguments.Given as goal

abbrev pub invariant-loop-e : goal.invariant-loop-e
invariant-loop-e l = record {
  terms : (linked_all l.list).drawn (scope_of l.scope) l.initial.next ≡ found_first (scope_of l.scope) l.found (drop l.e-index l.list) l.next;
  number : l.initial.next + length (linked_all l.list).strings ≡ l.next + length (linked_all (drop l.e-index l.list)).strings;
}
