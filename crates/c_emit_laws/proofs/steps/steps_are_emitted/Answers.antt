use Rattle.c_emit_laws.proofs.StepLaws.{numbers_fit, puts_are_emitted, keeps_are_emitted, conditions_are_emitted}
use Rattle.c_emit_laws.proofs.steps.steps_are_emitted.Goals as goal

pub returns : goal.returns
returns c = record { fit = numbers_fit; puts = puts_are_emitted; keeps = keeps_are_emitted; conditions = conditions_are_emitted }
