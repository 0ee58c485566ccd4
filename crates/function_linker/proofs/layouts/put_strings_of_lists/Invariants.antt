use Rattle.std.proofs.Common.{◌≡◌, ◌++◌, drop}
use Rattle.c_tree.specs.Declarations.{declared_statics}
use Rattle.c_tree.specs.Linking.{strings_of}
use Rattle.expression_linker.specs.StringsSeen.{texts}
use Rattle.function_linker.proofs.layouts.put_strings_of_lists.Given as goal

abbrev pub invariant-loop-local : goal.invariant-loop-local
invariant-loop-local l =
    texts l.initial.out.items ++ strings_of (declared_statics l.locals)
    ≡ texts l.out.items ++ strings_of (declared_statics (drop l.local-index l.locals))
