use Rattle.f_tree.specs.Lines.{way_of}
use Rattle.statement_lowering.proofs.ControlOperands.{refers-none, refers-some}
use Rattle.statement_lowering.proofs.controls.after_refers.Goals as goal

pub returns-in-None : goal.returns-in-None
returns-in-None c = λ way names told. refers-none (way_of way) names c.args.word c.args.e.now c.in-None.ensures

pub returns-in-Some : goal.returns-in-Some
returns-in-Some c = λ way names told.
    refers-some (way_of way) names c.args.word c.in-Some.field-0 c.args.e.now c.has_reference.result c.in-Some.ensures (c.has_reference.ensures names told)
