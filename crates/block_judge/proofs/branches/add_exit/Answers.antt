use Rattle.std.proofs.Common.{sym, ap, ◌∙◌}
use Rattle.found_rows.proofs.Walks.{put_as}
use Rattle.f_tree.specs.Folds.{fold_expr}
use Rattle.declaration_rows.specs.BlockRows.{layer_exits}
use Rattle.block_judge.proofs.BranchForms.{exit-AltReturn, exit-other, nothing_added}
use Rattle.block_judge.proofs.branches.add_exit.Goals as goal

pub returns-in-AltReturn : goal.returns-in-AltReturn
returns-in-AltReturn c =
    put_as c.add_label.result _ _ _ _ (sym (ap (fold_expr layer_exits) c.in-AltReturn.is ∙ exit-AltReturn c.in-AltReturn.label)) c.add_label.ensures

pub returns-in_default : goal.returns-in_default
returns-in_default c = nothing_added _ _ (exit-other c.args.e.now c.in_default.not-AltReturn)
