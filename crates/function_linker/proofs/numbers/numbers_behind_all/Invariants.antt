use Rattle.std.proofs.Common.{◌≡◌, drop}
use Rattle.function_linker.specs.NumbersBehind.{numbers_behind}
use Rattle.function_linker.proofs.numbers.numbers_behind_all.Given as goal

abbrev pub invariant-loop-local : goal.invariant-loop-local
invariant-loop-local l = numbers_behind l.initial.at l.locals ≡ numbers_behind l.at (drop l.local-index l.locals)
