use Rattle.std.proofs.Common.{drop}
use Rattle.function_linker.proofs.ScopeLaws.{Passed}
use Rattle.function_linker.proofs.scopes.give_parameters.Given as goal

abbrev pub invariant-loop-param : goal.invariant-loop-param
invariant-loop-param l = Passed l.initial.names l.names l.initial.next l.next l.params (drop l.param-index l.params)
