use Rattle.std.proofs.Common.{◌++◌, List, ap, ◌∙◌, arith}
use Rattle.found_rows.proofs.Walks.{each_more, each_end}
use Rattle.f_tree.specs.Attributes.{members_of}
use Rattle.given_judge.specs.GiftsSeen.{givens_in}
use Rattle.f_tree.specs.declared.statements.CommonGroup.{CommonGroup}
use Rattle.f_tree.specs.declared.statements.ArrayDeclarator.{ArrayDeclarator}
use Rattle.given_judge.proofs.GivenForms.{in_common, groups_step, groups_end}
use Rattle.given_judge.proofs.givens.add_groups.Goals as goal

pub loop-group-preserved : goal.loop-group-preserved
loop-group-preserved c =
    each_more (λ (xs : List CommonGroup). in_common (members_of xs)) (λ (x : CommonGroup). in_common x.items) groups_step
    c.args.groups.now c.loop-group.group-index c.group-item.result _ _ _ _ c.loop-group-test.true c.group-item.is c.loop-group.invariant
    (c.in_ok-add_members.ensures ∙ ap (λ (ds : List ArrayDeclarator). givens_in c.loop-group.givens.items ++ in_common ds) c.as_slice.ensures)

pub returns : goal.returns
returns c =
    each_end (λ (xs : List CommonGroup). in_common (members_of xs)) (λ (x : CommonGroup). in_common x.items) groups_end
    c.args.groups.now c.loop-group.group-index _ _ (omega arith) c.loop-group.invariant
