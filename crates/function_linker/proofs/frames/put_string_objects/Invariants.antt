use Rattle.std.proofs.Common.{◌≡◌, ◌++◌, map, drop}
use Rattle.c_tree.specs.Declarations as tree
use Rattle.expression_linker.specs.StringsSeen.{texts}
use Rattle.linked_programs.specs.LinkedPrograms.{object_of}
use Rattle.function_linker.proofs.frames.put_string_objects.Given as goal

abbrev pub invariant-loop-bytes : goal.invariant-loop-bytes
invariant-loop-bytes l =
    map object_of l.initial.objects ++ map tree.string_object (texts l.strings)
    ≡ map object_of l.objects ++ map tree.string_object (texts (drop l.bytes-index l.strings))
