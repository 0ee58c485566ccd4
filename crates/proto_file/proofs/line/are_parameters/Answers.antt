-- A name that is none, or stands twice.
use Rattle.std.proofs.Common.{sym, ◌∙◌, arith}
use Rattle.c_scope.specs.ScopeSeen.{here_of}
use Rattle.proto_file.proofs.LineSteps.{not_named_first}
use Rattle.proto_file.proofs.line.are_parameters.Goals as goal

pub returns-else-is_new : goal.returns-else-is_new
returns-else-is_new c =
    sym (c.loop-rest.invariant
    ∙ not_named_first (here_of c.loop-rest.names) c.loop-rest.rest.now c.first-item.result c.as_slice-name.result.now (omega arith) c.first-item.is c.as_slice-name.ensures
    (sym c.is_new.ensures ∙ c.if-is_new.false))
