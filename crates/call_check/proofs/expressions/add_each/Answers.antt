use Rattle.std.specs.Borrow.{Bor}
use Rattle.std.proofs.Common.{List, arith}
use Rattle.statement_parts.proofs.found_rows.Walks.{each_more, each_end}
use Rattle.f_tree.specs.declared.expressions.Expr.{Expr}
use Rattle.statement_parts.specs.TreesSeen.{trees}
use Rattle.call_shapes.specs.CallsMade.{calls_within, calls_among}
use Rattle.call_check.specs.CallsSeen.{seen_function}
use Rattle.call_check.proofs.CallForms.{list_step, list_end}
use Rattle.call_check.proofs.expressions.add_each.Goals as goal

pub loop-e-preserved : goal.loop-e-preserved
loop-e-preserved c =
    let applied = seen_function c.args.names.now in
    each_more (λ (es : List (Bor Expr)). calls_among applied (trees es)) (λ (e : Bor Expr). calls_within applied e.now)
    (λ (e : Bor Expr) (es : List (Bor Expr)). list_step applied e.now (trees es)) c.args.es.now c.loop-e.e-index c.e-item.result
    _ _ _ _ c.loop-e-test.true c.e-item.is c.loop-e.invariant c.in_ok-add_calls.ensures

pub returns : goal.returns
returns c =
    let applied = seen_function c.args.names.now in
    each_end (λ (es : List (Bor Expr)). calls_among applied (trees es)) (λ (e : Bor Expr). calls_within applied e.now) (list_end applied) c.args.es.now c.loop-e.e-index
    _ _ (omega arith) c.loop-e.invariant
