use Rattle.std.proofs.Common.{◌≡◌, ◌++◌, drop}
use Rattle.c_tree.specs.Linking as tree
use Rattle.expression_linker.specs.StringsSeen.{texts}
use Rattle.link_rules.proofs.definitions.imaged_names.Given as goal

abbrev pub invariant-loop-file : goal.invariant-loop-file
invariant-loop-file l =
    tree.all_imaged l.files ≡ texts l.names.items ++ tree.all_imaged (drop l.file-index l.files)
