use Rattle.std.proofs.Common.{arith}
use Rattle.f_tree.specs.declared.statements.Stmt.{Stmt}
use Rattle.f_tree.specs.Attributes.{from_all}
use Rattle.statement_places.proofs.loop_ranges.found_rows.Walks.{each_more, each_end}
use Rattle.unit_lowering.specs.AssignedLabels.{assigned_of}
use Rattle.unit_lowering.proofs.AssignedForms.{assigned_step, assigned_none}
use Rattle.unit_lowering.proofs.assigned.assigned_labels.Goals as goal

pub loop-statement-preserved : goal.loop-statement-preserved
loop-statement-preserved c =
    each_more (from_all assigned_of) (λ (s : Stmt). assigned_of s.body) assigned_step c.args.statements.now c.loop-statement.statement-index c.statement-item.result _ _ _ _ c.loop-statement-test.true
    c.statement-item.is c.loop-statement.invariant c.in_ok-add_assigned.ensures

pub returns : goal.returns
returns c = each_end (from_all assigned_of) (λ (s : Stmt). assigned_of s.body) assigned_none c.args.statements.now c.loop-statement.statement-index _ _ (omega arith) c.loop-statement.invariant
