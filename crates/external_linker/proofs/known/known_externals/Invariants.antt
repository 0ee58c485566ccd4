use Rattle.std.proofs.Common.{◌≡◌, drop}
use Rattle.c_tree.specs.Linking as tree
use Rattle.external_linker.specs.Externals.{externals_of, AreNumbered}
use Rattle.external_linker.proofs.known.known_externals.Given as goal

abbrev pub invariant-loop-file : goal.invariant-loop-file
invariant-loop-file l = record {
  objects : tree.externals l.files ≡ tree.externals_from (externals_of l.objects.items) (drop l.file-index l.files);
  numbers : AreNumbered l.numbers (externals_of l.objects.items);
}
