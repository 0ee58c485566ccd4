use Rattle.unit_contents.proofs.ProcedureLaws.{ArePassedTo}
use Rattle.unit_contents.proofs.procedures.add_operands.Given as goal

abbrev pub invariant-loop-operand : goal.invariant-loop-operand
invariant-loop-operand l = ArePassedTo l.table l.operands l.initial.names.items l.operand-index l.names.items
