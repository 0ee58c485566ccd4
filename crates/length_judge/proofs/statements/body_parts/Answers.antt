use Rattle.std.proofs.Common.{List, ◌++◌, ap, ◌∙◌}
use Rattle.std.specs.Borrow.{Bor}
use Rattle.f_tree.specs.declared.expressions.Expr.{Expr}
use Rattle.declaration_rows.specs.ReferenceRows.{parts_of}
use Rattle.statement_parts.specs.TreesSeen.{trees}
use Rattle.length_judge.proofs.FaultForms.{parts_as}
use Rattle.length_judge.proofs.statements.body_parts.Goals as goal

pub returns : goal.returns
returns c =
    parts_as c.expressions_parts.result c.args.names.now _ _
    (ap trees c.as_slice.ensures.value ∙ c.in_ok-add_expressions.ensures ∙ ap (λ (es : List (Bor Expr)). trees es ++ (parts_of c.args.body.now).expressions) c.new-es.ensures.items)
    c.expressions_parts.ensures
