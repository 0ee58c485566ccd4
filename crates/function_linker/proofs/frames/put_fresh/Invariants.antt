use Rattle.std.proofs.Common.{◌≡◌, ◌++◌, map, drop}
use Rattle.linked_programs.specs.LinkedPrograms.{object_of}
use Rattle.run_bytes.specs.Accesses.{object_at_first}
use Rattle.function_linker.proofs.frames.put_fresh.Given as goal

abbrev pub invariant-loop-kind : goal.invariant-loop-kind
invariant-loop-kind l =
    map object_of l.initial.objects ++ map object_at_first l.fresh ≡ map object_of l.objects ++ map object_at_first (drop l.kind-index l.fresh)
