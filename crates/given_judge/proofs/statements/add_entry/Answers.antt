use Rattle.std.proofs.Common.{◌++◌, ◌∷◌, [], refl, ap, ◌∙◌}
use Rattle.found_rows.proofs.Walks.{put_two}
use Rattle.declaration_rows.specs.GivenRows.{given}
use Rattle.given_judge.specs.GiftsSeen.{givens_in}
use Rattle.given_judge.proofs.statements.add_entry.Goals as goal

pub returns : goal.returns
returns c =
    put_two c.add_dummies.result _ _ _ _ _ _
    (c.in_ok-add_given.ensures ∙ ap (λ g. givens_in c.args.givens.now.items ++ given g c.args.name.now ∷ []) c.own_gift.ensures) c.add_dummies.ensures refl
