use Rattle.std.proofs.Common.{arith}
use Rattle.f_tree.specs.Uses.{uses_of_value}
use Rattle.f_tree.specs.declared.statements.Control.{Control}
use Rattle.name_uses.proofs.UseWalks.{all_more, all_end}
use Rattle.name_uses.proofs.statements.add_controls.Goals as goal

pub loop-control-preserved : goal.loop-control-preserved
loop-control-preserved c =
    all_more (λ (c : Control). uses_of_value c.value) c.args.controls.now c.loop-control.control-index c.control-item.result _ _ _ _ c.loop-control-test.true c.control-item.is c.loop-control.invariant
    (c.in_ok-add_value.ensures)

pub returns : goal.returns
returns c = all_end (λ (c : Control). uses_of_value c.value) c.args.controls.now c.loop-control.control-index _ _ (omega arith) c.loop-control.invariant
