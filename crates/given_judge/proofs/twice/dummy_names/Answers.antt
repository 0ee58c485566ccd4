use Rattle.std.proofs.Common.{◌++◌, ◌∷◌, [], List, sym, ap, arith}
use Rattle.found_rows.proofs.Walks.{each_more, each_end}
use Rattle.f_tree.specs.Attributes.{named_dummies}
use Rattle.name_table.specs.Named.{texts}
use Rattle.f_tree.specs.declared.statements.DummyArgument.{DummyArgument}
use Rattle.given_judge.proofs.RowForms.{names_step, names_end}
use Rattle.given_judge.proofs.twice.dummy_names.Goals as goal

pub loop-dummy-init : goal.loop-dummy-init
loop-dummy-init c = ap (λ rs. texts rs ++ named_dummies c.args.dummies.now) (sym c.new-names.ensures.items)

pub loop-dummy-preserved : goal.loop-dummy-preserved
loop-dummy-preserved c =
    each_more (λ (xs : List DummyArgument). named_dummies xs) (λ (x : DummyArgument). named_dummies (x ∷ [])) names_step c.args.dummies.now c.loop-dummy.dummy-index c.dummy-item.result _ _ _ _ c.loop-dummy-test.true c.dummy-item.is
    c.loop-dummy.invariant c.in_ok-add_name.ensures

pub returns : goal.returns
returns c = each_end (λ (xs : List DummyArgument). named_dummies xs) (λ (x : DummyArgument). named_dummies (x ∷ [])) names_end c.args.dummies.now c.loop-dummy.dummy-index _ _ (omega arith) c.loop-dummy.invariant
