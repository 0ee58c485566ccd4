use Rattle.std.proofs.Common.{◌≡◌, ◌++◌, drop}
use Rattle.c_tree.specs.Linking as tree
use Rattle.expression_linker.specs.StringsSeen.{texts}
use Rattle.link_rules.proofs.definitions.put_imaged.Given as goal

abbrev pub invariant-loop-object : goal.invariant-loop-object
invariant-loop-object l =
    texts l.initial.names.items ++ tree.imaged_names l.objects ≡ texts l.names.items ++ tree.imaged_names (drop l.object-index l.objects)
