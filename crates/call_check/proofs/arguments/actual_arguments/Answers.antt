use Rattle.std.proofs.Common.{◌++◌, ◌∷◌, [], List, map, refl, sym, ap, ◌∙◌, arith}
use Rattle.statement_parts.proofs.found_rows.Walks.{each_more, each_end}
use Rattle.f_tree.specs.declared.expressions.Expr.{Expr}
use Rattle.call_shapes.specs.declared.shapes.Argument.{Argument}
use Rattle.call_check.specs.CallsSeen.{seen_argument}
use Rattle.call_check.proofs.arguments.actual_arguments.Goals as goal

pub loop-e-init : goal.loop-e-init
loop-e-init c = ap (λ (bs : List Argument). bs ++ map (seen_argument c.args.names.now) c.args.es.now) (sym c.new-arguments.ensures)

pub loop-e-preserved : goal.loop-e-preserved
loop-e-preserved c =
    let seen = seen_argument c.args.names.now in
    each_more (λ (es : List Expr). map seen es) (λ (e : Expr). seen e ∷ []) (λ (e : Expr) (es : List Expr). refl) c.args.es.now c.loop-e.e-index c.e-item.result
    _ _ _ _ c.loop-e-test.true c.e-item.is c.loop-e.invariant
    (c.in_ok-push.ensures.ok ∙ ap (λ (a : Argument). c.loop-e.arguments ++ a ∷ []) c.actual_argument.ensures)

pub returns : goal.returns
returns c =
    let seen = seen_argument c.args.names.now in
    each_end (λ (es : List Expr). map seen es) (λ (e : Expr). seen e ∷ []) refl c.args.es.now c.loop-e.e-index _ _ (omega arith) c.loop-e.invariant
