use Rattle.std.proofs.Common.{◌≡◌, drop}
use Rattle.c_tree.specs.Linking as tree
use Rattle.link_rules.specs.Mains.{takes_as_main}
use Rattle.link_rules.proofs.mains.some_taking_main.Given as goal

abbrev pub invariant-loop-file : goal.invariant-loop-file
invariant-loop-file l =
    tree.any_of takes_as_main (tree.all_functions l.files) ≡ tree.any_of takes_as_main (tree.all_functions (drop l.file-index l.files))
