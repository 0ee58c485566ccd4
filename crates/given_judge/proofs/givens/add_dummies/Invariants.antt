use Rattle.std.proofs.Common.{◌≡◌, ◌++◌, drop, map}
use Rattle.declaration_rows.specs.GivenRows as rows
use Rattle.declaration_rows.specs.GivenRows.{given, shaped_names, saved_names, owners, owners_of, owners_in, data_owners, tied_owners}
use Rattle.f_tree.specs.Attributes.{named_dummies}
use Rattle.given_judge.specs.GiftsSeen.{givens_in}
use Rattle.given_judge.proofs.givens.add_dummies.Given as goal

abbrev pub invariant-loop-dummy : goal.invariant-loop-dummy
invariant-loop-dummy l =
    givens_in l.initial.givens.items ++ map (given rows.DummyOf) (named_dummies l.dummies)
    ≡ givens_in l.givens.items ++ map (given rows.DummyOf) (named_dummies (drop l.dummy-index l.dummies))
