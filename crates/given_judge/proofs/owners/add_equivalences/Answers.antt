use Rattle.std.proofs.Common.{◌++◌, List, map, ap, ◌∙◌, arith}
use Rattle.found_rows.proofs.Walks.{each_more, each_end}
use Rattle.declaration_rows.specs.GivenRows as rows
use Rattle.declaration_rows.specs.GivenRows.{given, shaped_names, saved_names, owners, owners_of, owners_in, data_owners, tied_owners}
use Rattle.given_judge.specs.GiftsSeen.{gift_in, givens_in}
use Rattle.f_tree.specs.declared.statements.EquivalenceGroup.{EquivalenceGroup}
use Rattle.f_tree.specs.declared.expressions.Expr.{Expr}
use Rattle.given_judge.proofs.OwnerForms.{ties_step, ties_end}
use Rattle.given_judge.proofs.owners.add_equivalences.Goals as goal

pub loop-group-preserved : goal.loop-group-preserved
unfolding gift_in
loop-group-preserved c =
    each_more (λ (xs : List EquivalenceGroup). map (given rows.EquivalencedOf) (tied_owners xs)) (λ (x : EquivalenceGroup). map (given rows.EquivalencedOf) (owners_of x.places)) ties_step
    c.args.groups.now c.loop-group.group-index c.group-item.result _ _ _ _ c.loop-group-test.true c.group-item.is c.loop-group.invariant
    (c.in_ok-add_owners.ensures ∙ ap (λ (es : List Expr). givens_in c.loop-group.givens.items ++ map (given rows.EquivalencedOf) (owners_of es)) c.as_slice.ensures)

pub returns : goal.returns
returns c =
    each_end (λ (xs : List EquivalenceGroup). map (given rows.EquivalencedOf) (tied_owners xs)) (λ (x : EquivalenceGroup). map (given rows.EquivalencedOf) (owners_of x.places)) ties_end
    c.args.groups.now c.loop-group.group-index _ _ (omega arith) c.loop-group.invariant
