use Rattle.std.proofs.Common.{◌≡◌, drop}
use Rattle.c_tree.specs.Linking as tree
use Rattle.link_rules.specs.Mains.{takes_as_main}
use Rattle.link_rules.proofs.mains.has_taking_main.Given as goal

abbrev pub invariant-loop-function : goal.invariant-loop-function
invariant-loop-function l =
    tree.any_of takes_as_main l.functions ≡ tree.any_of takes_as_main (drop l.function-index l.functions)
