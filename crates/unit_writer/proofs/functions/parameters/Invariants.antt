use Rattle.std.proofs.Common.{◌≡◌, ◌++◌, map, drop}
use Rattle.unit_writer.specs.Functions.{parameter_told}
use Rattle.unit_writer.proofs.functions.parameters.Given as goal

abbrev pub invariant-loop-dummy : goal.invariant-loop-dummy
invariant-loop-dummy l = map parameter_told l.dummies ≡ l.found.items ++ map parameter_told (drop l.dummy-index l.dummies)
