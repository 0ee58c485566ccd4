use Rattle.std.proofs.Common.{◌≡◌, drop}
use Rattle.first_names.specs.FirstNames.{first_of}
use Rattle.c_tree.specs.Linking as tree
use Rattle.link_rules.proofs.missing.some_missing.Given as goal

abbrev pub invariant-loop-file : goal.invariant-loop-file
invariant-loop-file l =
    tree.any_of (tree.misses (first_of l.numbers)) (tree.all_functions l.files) ≡ tree.any_of (tree.misses (first_of l.numbers)) (tree.all_functions (drop l.file-index l.files))
