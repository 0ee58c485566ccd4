use Rattle.std.proofs.Common.{◌≡◌, map, drop, nat_lt}
use Rattle.c_tree.specs.Linking as tree
use Rattle.linked_programs.specs.LinkedPrograms.{object_of}
use Rattle.link_rules.proofs.bytes.objects_are_too_large.Given as goal

abbrev pub invariant-loop-object : goal.invariant-loop-object
invariant-loop-object l =
    nat_lt tree.byte_limit (tree.bytes_of_objects (map object_of l.objects)) ≡ nat_lt l.left (tree.bytes_of_objects (map object_of (drop l.object-index l.objects)))
