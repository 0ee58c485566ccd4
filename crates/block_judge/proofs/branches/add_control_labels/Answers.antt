use Rattle.std.proofs.Common.{arith}
use Rattle.found_rows.proofs.Walks.{each_more, each_end}
use Rattle.f_tree.specs.declared.statements.Control.{Control}
use Rattle.declaration_rows.specs.BlockRows.{label_of_word, labels_of_controls}
use Rattle.block_judge.proofs.BranchForms.{controls_step, controls_none}
use Rattle.block_judge.proofs.branches.add_control_labels.Goals as goal

pub loop-control-preserved : goal.loop-control-preserved
loop-control-preserved c =
    each_more labels_of_controls (λ (k : Control). label_of_word k.word k.value) controls_step c.args.controls.now c.loop-control.control-index c.control-item.result _ _ _ _
    c.loop-control-test.true c.control-item.is c.loop-control.invariant c.in_ok-add_control_label.ensures

pub returns : goal.returns
returns c =
    each_end labels_of_controls (λ (k : Control). label_of_word k.word k.value) controls_none c.args.controls.now c.loop-control.control-index _ _ (omega arith) c.loop-control.invariant
