use Rattle.std.proofs.Common.{◌≡◌, drop}
use Rattle.c_tree.specs.Linking.{with_externals}
use Rattle.external_linker.specs.Externals.{externals_of, AreNumbered}
use Rattle.external_linker.proofs.known.add_all.Given as goal

abbrev pub invariant-loop-object : goal.invariant-loop-object
invariant-loop-object l = record {
  objects : with_externals (externals_of l.initial.objects.items) l.list ≡ with_externals (externals_of l.objects.items) (drop l.object-index l.list);
  numbers : AreNumbered l.numbers (externals_of l.objects.items);
}
