use Rattle.std.proofs.Common.{◌≡◌, [], length}
use Rattle.prototypes.specs.PrototypeText.{are_parameters}
use Rattle.c_scope.specs.ScopeSeen.{here_of}
use Rattle.proto_file.proofs.line.are_parameters.Given as goal

abbrev pub invariant-loop-rest : goal.invariant-loop-rest
invariant-loop-rest l = are_parameters [] l.fn.params ≡ are_parameters (here_of l.names) l.rest

abbrev pub decreases-loop-rest : goal.decreases-loop-rest
decreases-loop-rest l = length l.rest
