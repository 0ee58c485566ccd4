use Rattle.std.proofs.Common.{◌≡◌, map, take}
use Rattle.run_bytes.specs.Accesses.{object_at_first}
use Rattle.started_objects.specs.FirstObjects.{first_object}
use Rattle.started_objects.proofs.kinds.kinds_of.Given as goal

abbrev pub invariant-loop-object : goal.invariant-loop-object
invariant-loop-object l = map object_at_first l.kinds.items ≡ map first_object (take l.object-index l.objects)
