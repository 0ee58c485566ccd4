use Rattle.std.proofs.Common.{◌≡◌, drop}
use Rattle.c_tree.specs.Linking as tree
use Rattle.link_rules.proofs.mains.has_main.Given as goal

abbrev pub invariant-loop-function : goal.invariant-loop-function
invariant-loop-function l =
    tree.any_of (tree.named tree.main_name) l.functions ≡ tree.any_of (tree.named tree.main_name) (drop l.function-index l.functions)
