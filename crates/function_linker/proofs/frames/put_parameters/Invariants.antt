use Rattle.std.proofs.Common.{◌≡◌, ◌++◌, map, drop}
use Rattle.run_bytes.specs.Accesses.{object_at_first}
use Rattle.function_linker.specs.FreshObjects.{parameter_objects}
use Rattle.function_linker.proofs.frames.put_parameters.Given as goal

abbrev pub invariant-loop-param : goal.invariant-loop-param
invariant-loop-param l =
    map object_at_first l.initial.out ++ parameter_objects l.params ≡ map object_at_first l.out ++ parameter_objects (drop l.param-index l.params)
