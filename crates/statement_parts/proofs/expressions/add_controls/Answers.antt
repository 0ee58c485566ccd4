use Rattle.std.proofs.Common.{List, arith}
use Rattle.found_rows.proofs.Walks.{each_more, each_end}
use Rattle.statement_parts.proofs.PartForms.{controls_step, controls_end}
use Rattle.f_tree.specs.declared.statements.Control.{Control}
use Rattle.declaration_rows.specs.ReferenceRows.{expressions_of_value, expressions_of_controls}
use Rattle.statement_parts.proofs.expressions.add_controls.Goals as goal

pub loop-control-preserved : goal.loop-control-preserved
loop-control-preserved c =
    each_more (λ (xs : List Control). expressions_of_controls xs) (λ (x : Control). expressions_of_value x.value) controls_step c.args.controls.now c.loop-control.control-index c.control-item.result _ _ _ _ c.loop-control-test.true c.control-item.is c.loop-control.invariant
    c.in_ok-add_value.ensures

pub returns : goal.returns
returns c = each_end (λ (xs : List Control). expressions_of_controls xs) (λ (x : Control). expressions_of_value x.value) controls_end c.args.controls.now c.loop-control.control-index _ _ (omega arith) c.loop-control.invariant
