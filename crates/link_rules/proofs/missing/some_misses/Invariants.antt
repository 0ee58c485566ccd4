use Rattle.std.proofs.Common.{◌≡◌, drop}
use Rattle.first_names.specs.FirstNames.{first_of}
use Rattle.c_tree.specs.Linking as tree
use Rattle.link_rules.proofs.missing.some_misses.Given as goal

abbrev pub invariant-loop-function : goal.invariant-loop-function
invariant-loop-function l =
    tree.any_of (tree.misses (first_of l.numbers)) l.functions ≡ tree.any_of (tree.misses (first_of l.numbers)) (drop l.function-index l.functions)
