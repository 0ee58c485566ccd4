use Rattle.std.proofs.Common.{ap}
use Rattle.lowered_tree.specs.l_core.Steps as act
use Rattle.lowered_tree.specs.Shapes.{controls_of}
use Rattle.statement_lowering.proofs.ControlSteps.{acting-done}
use Rattle.statement_lowering.proofs.auxiliaries.push_auxiliary.Goals as goal

pub returns : goal.returns
returns c =
    acting-done c.args.table.now c.args.around c.args.which c.args.controls.now c.args.steps.now.items c.lower_controls.new.steps.items c.push_step.new.steps.items
    c.in_ok-values.values _ (controls_of c.in_ok-words.words) c.push_step.result c.requires
    (ap (λ d. act.Auxiliary d (controls_of c.in_ok-words.words)) c.kind_of.ensures) c.in_ok-words.ensures c.in_ok-values.ensures c.push_step.ensures
