use Rattle.std.proofs.Common.{List, ◌++◌, map, ap, ◌∙◌}
use Rattle.std.specs.Borrow.{Bor}
use Rattle.found_rows.proofs.Walks.{put_two}
use Rattle.f_tree.specs.declared.expressions.Expr.{Expr}
use Rattle.declaration_rows.specs.ReferenceRows.{parts_of}
use Rattle.statement_parts.specs.TreesSeen.{trees}
use Rattle.reference_judge.specs.ArgumentsSeen.{all_references, sight_by}
use Rattle.reference_judge.specs.ReferencesSeen.{at, call_references}
use Rattle.reference_judge.proofs.BindingLaws.{whole_statement}
use Rattle.reference_judge.proofs.statements.add_known.Goals as goal

pub returns : goal.returns
returns c =
    let names = c.args.names.now in
    let s = c.args.statement.now in
    put_two c.add_call.result _ _ _ (at s (all_references (map (sight_by names) (trees c.as_slice.result.now)))) (at s (call_references names (parts_of s.body).call)) _
    c.in_ok-add_each.ensures c.add_call.ensures
    (whole_statement names s (trees c.as_slice.result.now)
    (ap trees c.as_slice.ensures.value ∙ c.in_ok-add_expressions.ensures ∙ ap (λ (es : List (Bor Expr)). trees es ++ (parts_of s.body).expressions) c.new-es.ensures.items))
