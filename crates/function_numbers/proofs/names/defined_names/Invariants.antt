use Rattle.std.proofs.Common.{◌≡◌, ◌++◌, drop}
use Rattle.c_tree.specs.Linking.{function_names, all_functions}
use Rattle.expression_linker.specs.StringsSeen.{texts}
use Rattle.function_numbers.proofs.names.defined_names.Given as goal

abbrev pub invariant-loop-file : goal.invariant-loop-file
invariant-loop-file l =
    function_names (all_functions l.files) ≡ texts l.names.items ++ function_names (all_functions (drop l.file-index l.files))
