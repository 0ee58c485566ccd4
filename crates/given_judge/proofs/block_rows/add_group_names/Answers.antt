use Rattle.std.proofs.Common.{List, arith}
use Rattle.found_rows.proofs.Walks.{each_more, each_end}
use Rattle.f_tree.specs.Attributes.{option_list}
use Rattle.declaration_rows.specs.GlobalRows.{block_names}
use Rattle.f_tree.specs.declared.statements.CommonGroup.{CommonGroup}
use Rattle.given_judge.proofs.RowForms.{groups_step, groups_end}
use Rattle.given_judge.proofs.block_rows.add_group_names.Goals as goal

pub loop-group-preserved : goal.loop-group-preserved
loop-group-preserved c =
    each_more (λ (xs : List CommonGroup). block_names xs) (λ (x : CommonGroup). option_list x.block) groups_step
    c.args.groups.now c.loop-group.group-index c.group-item.result _ _ _ _ c.loop-group-test.true c.group-item.is c.loop-group.invariant
    (c.in_ok-add_block_name.ensures)

pub returns : goal.returns
returns c =
    each_end (λ (xs : List CommonGroup). block_names xs) (λ (x : CommonGroup). option_list x.block) groups_end
    c.args.groups.now c.loop-group.group-index _ _ (omega arith) c.loop-group.invariant
