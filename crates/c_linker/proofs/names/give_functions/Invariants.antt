use Rattle.std.proofs.Common.{drop}
use Rattle.first_names.specs.FirstNames.{first_of}
use Rattle.c_linker.proofs.HidingSteps.{HidesUntil, functions_from}
use Rattle.c_linker.proofs.names.give_functions.Given as goal

abbrev pub invariant-loop-function : goal.invariant-loop-function
invariant-loop-function l = HidesUntil l.initial.names l.names (functions_from (first_of l.numbers) l.functions) (functions_from (first_of l.numbers) (drop l.function-index l.functions))
