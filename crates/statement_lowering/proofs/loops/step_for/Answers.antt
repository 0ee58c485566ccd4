use Rattle.std.proofs.Common.{refl}
use Rattle.lowered_tree.proofs.ShapeForms.{pure-Constant}
use Rattle.lowered_tree.specs.declared.pures.Literal.TheVariants as literal
use Rattle.statement_lowering.proofs.LoopLaws.{step-none, step-some}
use Rattle.statement_lowering.proofs.loops.step_for.Goals as goal

pub returns-in-None : goal.returns-in-None
returns-in-None c = step-none c.args.table.now c.args.free c.args.step.now c.args.steps.now.items _ c.in-None.is (pure-Constant (literal.Integer _)) refl

pub returns-in-Some : goal.returns-in-Some
returns-in-Some c =
    step-some c.args.table.now c.args.free c.args.step.now c.in-Some.e c.args.steps.now.items c.value_for.new.steps.items c.value_for.result c.in-Some.is c.value_for.ensures
