use Rattle.std.proofs.Common.{◌≡◌, ◌++◌, map, drop}
use Rattle.run_bytes.specs.Accesses.{object_at_first}
use Rattle.function_linker.specs.FreshObjects.{automatic_objects}
use Rattle.function_linker.proofs.frames.put_automatics.Given as goal

abbrev pub invariant-loop-local : goal.invariant-loop-local
invariant-loop-local l =
    map object_at_first l.initial.out ++ automatic_objects l.locals ≡ map object_at_first l.out ++ automatic_objects (drop l.local-index l.locals)
