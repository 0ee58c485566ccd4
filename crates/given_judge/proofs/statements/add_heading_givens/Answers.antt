use Rattle.std.proofs.Common.{◌++◌, map, sym, ap, ◌∙◌}
use Rattle.found_rows.proofs.Walks.{put_three}
use Rattle.f_tree.specs.Attributes.{option_list, named_dummies}
use Rattle.declaration_rows.specs.GivenRows as rows
use Rattle.declaration_rows.specs.GivenRows.{given, own_gift}
use Rattle.given_judge.specs.GiftsSeen.{givens_in, heading_type}
use Rattle.given_judge.proofs.GivenForms.{heading_gives}
use Rattle.given_judge.proofs.statements.add_heading_givens.Goals as goal

pub returns : goal.returns
returns c =
    let u = c.args.unit.now in
    put_three c.add_dummies.result _ _ _ _ (map (given (own_gift u.kind)) (option_list u.name)) (heading_type u) (map (given rows.DummyOf) (named_dummies c.as_slice.result.now)) _
    (c.in_ok-add_optional.ensures ∙ ap (λ g. givens_in c.args.givens.now.items ++ map (given g) (option_list u.name)) c.own_gift.ensures) c.in_ok-add_heading_type.ensures
    c.add_dummies.ensures
    (ap (λ ds. (map (given (own_gift u.kind)) (option_list u.name) ++ heading_type u) ++ map (given rows.DummyOf) (named_dummies ds)) c.as_slice.ensures ∙ sym (heading_gives u))
