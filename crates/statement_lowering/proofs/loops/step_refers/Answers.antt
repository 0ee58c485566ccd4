use Rattle.statement_lowering.proofs.LoopLaws.{step-covered, refers-none, refers-some}
use Rattle.statement_lowering.proofs.loops.step_refers.Goals as goal

pub has_reference-requires : goal.has_reference-requires
has_reference-requires c = step-covered c.args.table.now c.args.step.now c.in-Some.e c.in-Some.is c.requires

pub returns-in-None : goal.returns-in-None
returns-in-None c = λ names told. refers-none names c.args.step.now c.in-None.is

pub returns-in-Some : goal.returns-in-Some
returns-in-Some c = λ names told. refers-some names c.args.step.now c.in-Some.e c.has_reference.result c.in-Some.is (c.has_reference.ensures names told)
