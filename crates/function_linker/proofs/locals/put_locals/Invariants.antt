use Rattle.std.proofs.Common.{map, take, drop}
use Rattle.first_names.specs.FirstNames.{first_of}
use Rattle.linked_programs.specs.LinkedPrograms.{object_of}
use Rattle.function_linker.proofs.LocalLaws.{Walked}
use Rattle.function_linker.proofs.locals.put_locals.Given as goal

abbrev pub invariant-loop-local : goal.invariant-loop-local
invariant-loop-local l =
    Walked (first_of l.numbers) l.initial.at l.initial.names (map object_of l.initial.objects) l.locals (take l.local-index l.locals) (drop l.local-index l.locals) l.at l.names (map object_of l.objects)
