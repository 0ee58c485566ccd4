use Rattle.statement_places.proofs.BodyForms.{do-other}
use Rattle.statement_places.proofs.loops.is_do.Goals as goal

pub returns-in_default : goal.returns-in_default
returns-in_default c = do-other c.args.body.now c.in_default.not-Do
