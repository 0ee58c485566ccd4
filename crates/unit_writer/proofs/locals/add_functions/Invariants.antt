use Rattle.std.proofs.Common.{◌≡◌, ◌++◌, drop}
use Rattle.unit_writer.proofs.LocalLaws.{functions_behind}
use Rattle.unit_writer.proofs.locals.add_functions.Given as goal

abbrev pub invariant-loop-function : goal.invariant-loop-function
invariant-loop-function l = l.initial.locals.items ++ functions_behind l.functions ≡ l.locals.items ++ functions_behind (drop l.function-index l.functions)
