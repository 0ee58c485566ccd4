use Rattle.std.proofs.Common.{◌≡◌, take}
use Rattle.proto_file.specs.Parts.{all_listed}
use Rattle.proto_file.proofs.tree.function_prototypes.Given as goal

abbrev pub invariant-loop-function : goal.invariant-loop-function
invariant-loop-function l = l.protos ≡ all_listed (take l.function-index l.functions)
