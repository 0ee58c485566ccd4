use Rattle.std.proofs.Common.{get_or, sym, ap, subst, ◌∙◌}
use Rattle.f_tree.specs.declared.statements.Stmt.{Stmt}
use Rattle.placing_judge.specs.Walked.{SaysNothing}
use Rattle.offset_classes.proofs.Tying.{told_false}
use Rattle.placing_judge.proofs.RowLaws.{fault_kept}
use Rattle.placing_judge.proofs.faults.next_fault.Goals as goal

pub returns-then-not-shares_storage : goal.returns-then-not-shares_storage
returns-then-not-shares_storage c =
    fault_kept c.args.unit.now c.args.at c.index-as_slice-at.result c.index-as_slice-at.result c.args.before c.requires.at
    (c.index-as_slice-at.is ∙ ap (λ ss. get_or ss c.args.at c.index-as_slice-at.result) c.as_slice.ensures)
    (subst (λ (t : Stmt). SaysNothing t.body) (sym c.index-as_slice-at.is)
    (told_false _ c.shares_storage.result c.if-not-shares_storage.true c.shares_storage.ensures)) c.requires.before
