use Rattle.std.proofs.Common.{◌≡◌, drop, bytes_eq}
use Rattle.c_tree.specs.Builtins.{builtin_names}
use Rattle.c_tree.specs.Linking as tree
use Rattle.expression_linker.specs.StringsSeen.{texts}
use Rattle.link_rules.proofs.definitions.some_builtin.Given as goal

abbrev pub invariant-loop-name : goal.invariant-loop-name
invariant-loop-name l =
    tree.any_of (λ name. tree.any_of (bytes_eq name) builtin_names) (texts l.names) ≡ tree.any_of (λ name. tree.any_of (bytes_eq name) builtin_names) (texts (drop l.name-index l.names))
