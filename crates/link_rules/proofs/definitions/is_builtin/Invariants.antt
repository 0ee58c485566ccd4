use Rattle.std.proofs.Common.{◌≡◌, drop, bytes_eq}
use Rattle.c_tree.specs.Builtins.{builtin_names}
use Rattle.c_tree.specs.Linking as tree
use Rattle.expression_linker.specs.StringsSeen.{texts}
use Rattle.link_rules.proofs.definitions.is_builtin.Given as goal

abbrev pub invariant-loop-builtin : goal.invariant-loop-builtin
invariant-loop-builtin l =
    tree.any_of (bytes_eq l.name) builtin_names ≡ tree.any_of (bytes_eq l.name) (texts (drop l.builtin-index l.builtin-items))
