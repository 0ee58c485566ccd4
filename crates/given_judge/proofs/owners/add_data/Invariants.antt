use Rattle.std.proofs.Common.{◌≡◌, ◌++◌, drop, map}
use Rattle.declaration_rows.specs.GivenRows as rows
use Rattle.declaration_rows.specs.GivenRows.{given, shaped_names, saved_names, owners, owners_of, owners_in, data_owners, tied_owners}
use Rattle.given_judge.specs.GiftsSeen.{givens_in}
use Rattle.given_judge.proofs.owners.add_data.Given as goal

abbrev pub invariant-loop-group : goal.invariant-loop-group
invariant-loop-group l =
    givens_in l.initial.givens.items ++ map (given rows.DataOf) (data_owners l.groups)
    ≡ givens_in l.givens.items ++ map (given rows.DataOf) (data_owners (drop l.group-index l.groups))
