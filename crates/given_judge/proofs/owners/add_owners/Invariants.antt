use Rattle.std.proofs.Common.{◌≡◌, ◌++◌, drop, map}
use Rattle.declaration_rows.specs.GivenRows.{given, owners_of}
use Rattle.given_judge.specs.GiftsSeen.{gift_in, givens_in}
use Rattle.given_judge.proofs.owners.add_owners.Given as goal

abbrev pub invariant-loop-e : goal.invariant-loop-e
invariant-loop-e l =
    givens_in l.initial.givens.items ++ map (given (gift_in l.gift)) (owners_of l.es)
    ≡ givens_in l.givens.items ++ map (given (gift_in l.gift)) (owners_of (drop l.e-index l.es))
