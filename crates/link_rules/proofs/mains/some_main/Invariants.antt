use Rattle.std.proofs.Common.{◌≡◌, drop}
use Rattle.c_tree.specs.Linking as tree
use Rattle.link_rules.proofs.mains.some_main.Given as goal

abbrev pub invariant-loop-file : goal.invariant-loop-file
invariant-loop-file l =
    tree.any_of (tree.named tree.main_name) (tree.all_functions l.files) ≡ tree.any_of (tree.named tree.main_name) (tree.all_functions (drop l.file-index l.files))
