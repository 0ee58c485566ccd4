use Rattle.unit_lowering.proofs.AssignedForms.{nothing_added, assigned-other}
use Rattle.unit_lowering.proofs.assigned.+add_assigned.Goals as goal

pub returns-in_default : goal.returns-in_default
returns-in_default t c = nothing_added _ _ (assigned-other c.args.body.now c.in_default.not-AssignLabel c.in_default.not-IfOne)
