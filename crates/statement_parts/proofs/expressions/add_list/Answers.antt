use Rattle.std.proofs.Common.{◌∷◌, [], List, refl, arith}
use Rattle.found_rows.proofs.Walks.{each_more, each_end}
use Rattle.f_tree.specs.declared.expressions.Expr.{Expr}
use Rattle.statement_parts.proofs.expressions.add_list.Goals as goal

pub loop-e-preserved : goal.loop-e-preserved
loop-e-preserved c =
    each_more (λ (xs : List Expr). xs) (λ (x : Expr). x ∷ []) (λ x xs. refl) c.args.es.now c.loop-e.e-index c.e-item.result _ _ _ _ c.loop-e-test.true c.e-item.is c.loop-e.invariant
    c.in_ok-add_one.ensures

pub returns : goal.returns
returns c = each_end (λ (xs : List Expr). xs) (λ (x : Expr). x ∷ []) refl c.args.es.now c.loop-e.e-index _ _ (omega arith) c.loop-e.invariant
