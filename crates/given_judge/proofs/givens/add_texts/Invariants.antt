use Rattle.std.proofs.Common.{◌≡◌, ◌++◌, drop, map}
use Rattle.declaration_rows.specs.GivenRows.{given}
use Rattle.given_judge.specs.GiftsSeen.{gift_in, givens_in}
use Rattle.given_judge.proofs.givens.add_texts.Given as goal

abbrev pub invariant-loop-name : goal.invariant-loop-name
invariant-loop-name l =
    givens_in l.initial.givens.items ++ map (given (gift_in l.gift)) l.names
    ≡ givens_in l.givens.items ++ map (given (gift_in l.gift)) (drop l.name-index l.names)
