use Rattle.std.proofs.Common.{◌∷◌, [], List, map, arith}
use Rattle.found_rows.proofs.Walks.{each_more, each_end}
use Rattle.declaration_rows.specs.GivenRows as rows
use Rattle.declaration_rows.specs.GivenRows.{given, shaped_names, saved_names, owners, owners_of, owners_in, data_owners, tied_owners}
use Rattle.f_tree.specs.Attributes.{named_dummies}
use Rattle.f_tree.specs.declared.statements.DummyArgument.{DummyArgument}
use Rattle.given_judge.proofs.GivenForms.{dummies_step, dummies_end}
use Rattle.given_judge.proofs.givens.add_dummies.Goals as goal

pub loop-dummy-preserved : goal.loop-dummy-preserved
loop-dummy-preserved c =
    each_more (λ (xs : List DummyArgument). map (given rows.DummyOf) (named_dummies xs)) (λ (x : DummyArgument). map (given rows.DummyOf) (named_dummies (x ∷ []))) dummies_step
    c.args.dummies.now c.loop-dummy.dummy-index c.dummy-item.result _ _ _ _ c.loop-dummy-test.true c.dummy-item.is c.loop-dummy.invariant
    (c.in_ok-add_dummy.ensures)

pub returns : goal.returns
returns c =
    each_end (λ (xs : List DummyArgument). map (given rows.DummyOf) (named_dummies xs)) (λ (x : DummyArgument). map (given rows.DummyOf) (named_dummies (x ∷ []))) dummies_end
    c.args.dummies.now c.loop-dummy.dummy-index _ _ (omega arith) c.loop-dummy.invariant
