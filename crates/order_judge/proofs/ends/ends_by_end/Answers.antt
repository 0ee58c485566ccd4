use Rattle.std.proofs.Common.{sym, ap, ◌∙◌, arith}
use Rattle.f_tree.specs.declared.statements.Stmt.{Stmt}
use Rattle.declaration_rows.specs.UnitRows.{is_end}
use Rattle.order_judge.proofs.LabelLemmas.{ends_last, ends_none}
use Rattle.order_judge.proofs.ends.ends_by_end.Goals as goal

pub returns-in-empty : goal.returns-in-empty
returns-in-empty c = ends_none c.args.statements.now (omega arith)

pub returns-in-len1-up : goal.returns-in-len1-up
returns-in-len1-up c =
    c.is_end.ensures ∙ ap (λ (s : Stmt). is_end s.body) c.last-item.is ∙ sym (ends_last c.args.statements.now _ (omega arith))
