use Rattle.std.proofs.Common.{List, ◌++◌, ap, ◌∙◌}
use Rattle.std.specs.Borrow.{Bor}
use Rattle.statement_parts.proofs.found_rows.Walks.{put_as}
use Rattle.f_tree.specs.declared.expressions.Expr.{Expr}
use Rattle.call_shapes.specs.declaration_rows.ReferenceRows.{parts_of}
use Rattle.statement_parts.specs.TreesSeen.{trees}
use Rattle.call_shapes.specs.CallsMade.{calls_among}
use Rattle.call_check.specs.CallsSeen.{seen_function}
use Rattle.call_check.proofs.statements.add_parts.Goals as goal

pub returns : goal.returns
returns c =
    let applied = seen_function c.args.names.now in
    put_as c.add_each.result _ _ (calls_among applied (trees c.as_slice.result.now)) _
    (ap (calls_among applied)
    (ap trees c.as_slice.ensures.value ∙ c.in_ok-add_expressions.ensures
    ∙ ap (λ (es : List (Bor Expr)). trees es ++ (parts_of c.args.body.now).expressions) c.new-es.ensures.items))
    c.add_each.ensures
