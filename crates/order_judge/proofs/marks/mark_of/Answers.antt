use Rattle.order_judge.specs.NestSteps.{mark_in}
use Rattle.order_judge.proofs.BodyLemmas.{mark_other}
use Rattle.order_judge.proofs.marks.mark_of.Goals as goal

pub returns-in_default : goal.returns-in_default
unfolding mark_in
returns-in_default c = mark_other c.args.body.now c.in_default.not-IfThen c.in_default.not-ElseIf c.in_default.not-Else c.in_default.not-EndIf
