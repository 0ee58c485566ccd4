use Rattle.lowered_tree.specs.Shapes.{callee_of, pures_of}
use Rattle.name_facts.specs.GivenFacts.{fact_in}
use Rattle.expression_lowering.specs.Purposes.{purpose_of}
use Rattle.expression_lowering.specs.LoweredForms.{callee_of_fact}
use Rattle.expression_lowering.proofs.Closings.{closed-Reference}
use Rattle.expression_lowering.proofs.closing.call.Goals as goal

pub returns : goal.returns
returns c =
    closed-Reference (callee_of_fact c.args.name.now (fact_in c.args.table.now c.args.name.now)) (callee_of c.in_ok-callee.callee) (purpose_of c.args.purpose)
    c.args.first c.args.operands.free (pures_of c.args.operands.values) c.args.steps.now.items c.push_step.new.steps.items c.temporary.result
    c.in_ok-callee.ensures c.in_ok-push_step.ensures c.temporary.ensures
