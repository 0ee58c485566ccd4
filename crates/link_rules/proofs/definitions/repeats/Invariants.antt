use Rattle.std.proofs.Common.{◌≡◌, drop}
use Rattle.c_tree.specs.Linking as tree
use Rattle.expression_linker.specs.StringsSeen.{texts}
use Rattle.expression_linker.specs.Mentions.{has}
use Rattle.link_rules.specs.Definitions.{repeats_from}
use Rattle.link_rules.proofs.definitions.repeats.Given as goal

abbrev pub invariant-loop-name : goal.invariant-loop-name
invariant-loop-name l =
    tree.repeats (texts l.names) ≡ repeats_from (has l.seen) (texts (drop l.name-index l.names))
