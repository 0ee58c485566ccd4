use Rattle.std.proofs.Common.{◌≡◌}
use Rattle.linked_programs.specs.LinkedPrograms.{object_of}
use Rattle.started_objects.specs.FirstObjects.{first_object}
use Rattle.started_objects.proofs.LateLists.{late_to}
use Rattle.started_objects.proofs.starts.start_all.Given as goal

abbrev pub invariant-loop-number : goal.invariant-loop-number
invariant-loop-number l = l.run ≡ late_to object_of first_object l.number l.objects
