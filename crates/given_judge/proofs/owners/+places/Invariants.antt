use Rattle.std.proofs.Common.{◌≡◌, ◌++◌, drop, map}
use Rattle.declaration_rows.specs.GivenRows as rows
use Rattle.declaration_rows.specs.GivenRows.{given, shaped_names, saved_names, owners, owners_of, owners_in, data_owners, tied_owners}
use Rattle.given_judge.specs.GiftsSeen.{givens_in}
use Rattle.given_judge.proofs.owners.+places.Given as goal

abbrev pub invariant-add_places-loop-item : goal.invariant-add_places-loop-item
invariant-add_places-loop-item l =
    givens_in l.initial.givens.items ++ map (given rows.DataOf) (owners_in l.items)
    ≡ givens_in l.givens.items ++ map (given rows.DataOf) (owners_in (drop l.item-index l.items))
