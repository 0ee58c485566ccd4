use Rattle.std.proofs.Common.{◌≡◌, ◌++◌, drop}
use Rattle.c_tree.specs.Linking as linking
use Rattle.function_linker.proofs.frames.parameter_types.Given as goal

abbrev pub invariant-loop-param : goal.invariant-loop-param
invariant-loop-param l = linking.parameter_types l.params ≡ l.types ++ linking.parameter_types (drop l.param-index l.params)
