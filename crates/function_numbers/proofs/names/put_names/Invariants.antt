use Rattle.std.proofs.Common.{◌≡◌, ◌++◌, drop}
use Rattle.c_tree.specs.Linking.{function_names}
use Rattle.expression_linker.specs.StringsSeen.{texts}
use Rattle.function_numbers.proofs.names.put_names.Given as goal

abbrev pub invariant-loop-function : goal.invariant-loop-function
invariant-loop-function l =
    texts l.initial.names.items ++ function_names l.functions ≡ texts l.names.items ++ function_names (drop l.function-index l.functions)
