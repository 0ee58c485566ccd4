use Rattle.std.proofs.Common.{map, take}
use Rattle.run_bytes.specs.Accesses.{object_at_first}
use Rattle.run_bytes.proofs.RunLemmas.{Opens}
use Rattle.run_bytes.proofs.run.RunBytes.new.Given as goal

abbrev pub invariant-loop-kind : goal.invariant-loop-kind
invariant-loop-kind l = Opens (map object_at_first (take l.kind-index l.objects)) l.places.items l.bytes.items l.marks.items l.values.items
