use Rattle.std.proofs.Common.{◌≡◌, ◌++◌, map, drop}
use Rattle.c_tree.specs.Linking as tree
use Rattle.external_linker.specs.Externals.{externals_of}
use Rattle.linked_programs.specs.LinkedPrograms.{object_of}
use Rattle.external_linker.proofs.objects.put_external_objects.Given as goal

abbrev pub invariant-loop-object : goal.invariant-loop-object
invariant-loop-object l =
    map object_of l.initial.out ++ map tree.external_object (externals_of l.objects)
    ≡ map object_of l.out ++ map tree.external_object (externals_of (drop l.object-index l.objects))
