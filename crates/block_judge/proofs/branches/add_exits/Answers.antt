use Rattle.std.proofs.Common.{arith}
use Rattle.found_rows.proofs.Walks.{each_more, each_end}
use Rattle.f_tree.specs.Folds.{fold_expr}
use Rattle.declaration_rows.specs.BlockRows.{layer_exits, exits_of}
use Rattle.block_judge.proofs.BranchForms.{exits_step, exits_none}
use Rattle.block_judge.proofs.branches.add_exits.Goals as goal

pub loop-e-preserved : goal.loop-e-preserved
loop-e-preserved c =
    each_more exits_of (fold_expr layer_exits) exits_step c.args.es.now c.loop-e.e-index c.e-item.result _ _ _ _ c.loop-e-test.true c.e-item.is c.loop-e.invariant c.in_ok-add_exit.ensures

pub returns : goal.returns
returns c = each_end exits_of (fold_expr layer_exits) exits_none c.args.es.now c.loop-e.e-index _ _ (omega arith) c.loop-e.invariant
