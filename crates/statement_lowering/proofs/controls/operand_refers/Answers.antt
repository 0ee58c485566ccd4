use Rattle.f_tree.specs.Lines.{way_of}
use Rattle.statement_lowering.proofs.ControlOperands.{covered-after, refers-star, refers-label, refers-value}
use Rattle.statement_lowering.proofs.controls.operand_refers.Goals as goal

pub after_refers-requires : goal.after_refers-requires
after_refers-requires c = covered-after c.args.table.now c.args.control.now.value c.in-Value.e c.in-Value.is c.requires

pub returns-in-Star : goal.returns-in-Star
returns-in-Star c = λ way names told. refers-star (way_of way) names c.args.control.now.word c.args.control.now.value c.in-Star.is

pub returns-in-Label : goal.returns-in-Label
returns-in-Label c = λ way names told. refers-label (way_of way) names c.args.control.now.word c.args.control.now.value c.in-Label.field-0 c.in-Label.is

pub returns-in-Value : goal.returns-in-Value
returns-in-Value c = λ way names told.
    refers-value (way_of way) names c.args.control.now.word c.args.control.now.value c.in-Value.e c.after_refers.result c.in-Value.is (c.after_refers.ensures way names told)
