use Rattle.std.proofs.Common.{◌≡◌, take}
use Rattle.proto_file.proofs.tree.copied_params.Given as goal

abbrev pub invariant-loop-param : goal.invariant-loop-param
invariant-loop-param l = l.copy ≡ take l.param-index l.params
