use Rattle.std.proofs.Common.{◌++◌, List, map, ap, ◌∙◌, arith}
use Rattle.found_rows.proofs.Walks.{each_more, each_end}
use Rattle.declaration_rows.specs.GivenRows as rows
use Rattle.declaration_rows.specs.GivenRows.{given, shaped_names, saved_names, owners, owners_of, owners_in, data_owners, tied_owners}
use Rattle.given_judge.specs.GiftsSeen.{givens_in}
use Rattle.f_tree.specs.declared.statements.DataGroup.{DataGroup}
use Rattle.f_tree.specs.declared.statements.ListItem.{ListItem}
use Rattle.given_judge.proofs.OwnerForms.{data_step, data_end}
use Rattle.given_judge.proofs.owners.add_data.Goals as goal

pub loop-group-preserved : goal.loop-group-preserved
loop-group-preserved c =
    each_more (λ (xs : List DataGroup). map (given rows.DataOf) (data_owners xs)) (λ (x : DataGroup). map (given rows.DataOf) (owners_in x.places)) data_step
    c.args.groups.now c.loop-group.group-index c.group-item.result _ _ _ _ c.loop-group-test.true c.group-item.is c.loop-group.invariant
    (c.in_ok-add_places.ensures ∙ ap (λ (is : List ListItem). givens_in c.loop-group.givens.items ++ map (given rows.DataOf) (owners_in is)) c.as_slice.ensures)

pub returns : goal.returns
returns c =
    each_end (λ (xs : List DataGroup). map (given rows.DataOf) (data_owners xs)) (λ (x : DataGroup). map (given rows.DataOf) (owners_in x.places)) data_end
    c.args.groups.now c.loop-group.group-index _ _ (omega arith) c.loop-group.invariant
