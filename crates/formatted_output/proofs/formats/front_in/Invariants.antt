use Rattle.std.specs.Prelude.{slice_get}
use Rattle.formatted_output.proofs.FrontLaws.{Along}
use Rattle.formatted_output.proofs.formats.front_in.Given as goal

abbrev pub invariant-loop-size : goal.invariant-loop-size
invariant-loop-size l = Along (slice_get l.run l.object) l.offset l.size
