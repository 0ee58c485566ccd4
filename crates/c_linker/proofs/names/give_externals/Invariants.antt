use Rattle.std.proofs.Common.{drop}
use Rattle.c_tree.specs.Linking.{known_externals}
use Rattle.first_names.specs.FirstNames.{first_of}
use Rattle.c_linker.proofs.HidingSteps.{HidesUntil}
use Rattle.c_linker.proofs.names.give_externals.Given as goal

abbrev pub invariant-loop-object : goal.invariant-loop-object
invariant-loop-object l = HidesUntil l.initial.names l.names (known_externals (first_of l.places) l.objects) (known_externals (first_of l.places) (drop l.object-index l.objects))
