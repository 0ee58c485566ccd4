use Rattle.std.specs.Borrow.{Bor}
use Rattle.std.proofs.Common.{List, map, arith}
use Rattle.found_rows.proofs.Walks.{each_more, each_end}
use Rattle.f_tree.specs.declared.expressions.Expr.{Expr}
use Rattle.statement_parts.specs.TreesSeen.{trees}
use Rattle.reference_judge.specs.ArgumentsSeen.{all_references, sight_by}
use Rattle.reference_judge.specs.ReferencesSeen.{at}
use Rattle.reference_judge.proofs.SightForms.{list_step, list_end}
use Rattle.reference_judge.proofs.statements.add_each.Goals as goal

pub loop-e-preserved : goal.loop-e-preserved
loop-e-preserved c =
    let s = c.args.statement.now in
    let sight = sight_by c.args.names.now in
    each_more (λ (es : List (Bor Expr)). at s (all_references (map sight (trees es)))) (λ (e : Bor Expr). at s (sight e.now).references)
    (λ (e : Bor Expr) (es : List (Bor Expr)). list_step c.args.names.now s e.now (trees es)) c.args.es.now c.loop-e.e-index c.e-item.result
    _ _ _ _ c.loop-e-test.true c.e-item.is c.loop-e.invariant c.in_ok-add_references.ensures

pub returns : goal.returns
returns c =
    let s = c.args.statement.now in
    let sight = sight_by c.args.names.now in
    each_end (λ (es : List (Bor Expr)). at s (all_references (map sight (trees es)))) (λ (e : Bor Expr). at s (sight e.now).references) (list_end c.args.names.now s) c.args.es.now c.loop-e.e-index
    _ _ (omega arith) c.loop-e.invariant
