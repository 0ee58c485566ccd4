use Rattle.lowered_tree.specs.Shapes.{pures_of}
use Rattle.statement_lowering.proofs.CallLaws.{call-alone, call-by}
use Rattle.statement_lowering.proofs.calls.push_sub.Goals as goal

pub returns-then-is_empty : goal.returns-then-is_empty
returns-then-is_empty c =
    call-alone c.args.holder c.args.name.now _ c.args.labels.now (pures_of c.args.values) c.is_empty.result c.push_step.result c.args.steps.now.items c.push_step.new.steps.items
    c.in_ok-name.ensures c.is_empty.ensures c.if-is_empty.true c.push_step.ensures

pub returns-else-is_empty : goal.returns-else-is_empty
returns-else-is_empty c =
    call-by c.args.holder c.args.name.now _ c.args.labels.now (pures_of c.args.values) c.is_empty.result c.push_call_by.result c.args.steps.now.items c.push_call_by.new.steps.items
    c.in_ok-name.ensures c.is_empty.ensures c.if-is_empty.false c.push_call_by.ensures
