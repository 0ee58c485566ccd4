use Rattle.unit_contents.proofs.ProcedureLaws.{AreListedTo}
use Rattle.unit_contents.proofs.procedures.procedures_in.Given as goal

abbrev pub invariant-loop-step : goal.invariant-loop-step
invariant-loop-step l = AreListedTo l.table l.steps l.step-index l.names.items
