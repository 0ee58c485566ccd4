use Rattle.std.proofs.Common.{arith}
use Rattle.unit_contents.proofs.ProcedureLaws.{listed_begin, listed_more, listed_end}
use Rattle.unit_contents.proofs.procedures.procedures_in.Goals as goal

pub loop-step-init : goal.loop-step-init
loop-step-init c = listed_begin c.args.table.now c.args.steps.now c.new-names.result.items c.new-names.ensures.items

pub loop-step-preserved : goal.loop-step-preserved
loop-step-preserved c =
    listed_more c.args.table.now c.args.steps.now c.loop-step.step-index c.step-item.result c.loop-step.names.items _ c.loop-step-test.true c.step-item.is c.in_ok-add_step.ensures
    c.loop-step.invariant

pub returns : goal.returns
returns c = listed_end c.args.table.now c.args.steps.now c.loop-step.step-index c.loop-step.names.items (omega arith) c.loop-step.invariant
