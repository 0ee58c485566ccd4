use Rattle.std.proofs.Common.{List, map, arith}
use Rattle.found_rows.proofs.Walks.{each_more, each_end}
use Rattle.declaration_rows.specs.GivenRows.{given, owners, owners_of}
use Rattle.given_judge.specs.GiftsSeen.{gift_in}
use Rattle.f_tree.specs.declared.expressions.Expr.{Expr}
use Rattle.given_judge.proofs.OwnerForms.{owners_step, owners_end}
use Rattle.given_judge.proofs.owners.add_owners.Goals as goal

pub loop-e-preserved : goal.loop-e-preserved
loop-e-preserved c =
    each_more (λ (xs : List Expr). map (given (gift_in c.args.gift)) (owners_of xs)) (λ (x : Expr). map (given (gift_in c.args.gift)) (owners x)) (owners_step (gift_in c.args.gift))
    c.args.es.now c.loop-e.e-index c.e-item.result _ _ _ _ c.loop-e-test.true c.e-item.is c.loop-e.invariant
    (c.in_ok-add_owner.ensures)

pub returns : goal.returns
returns c =
    each_end (λ (xs : List Expr). map (given (gift_in c.args.gift)) (owners_of xs)) (λ (x : Expr). map (given (gift_in c.args.gift)) (owners x)) (owners_end (gift_in c.args.gift))
    c.args.es.now c.loop-e.e-index _ _ (omega arith) c.loop-e.invariant
