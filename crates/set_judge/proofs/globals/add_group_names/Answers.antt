use Rattle.std.proofs.Common.{map, true, refl, arith}
use Rattle.found_rows.proofs.Walks.{each_more, each_end}
use Rattle.f_tree.specs.Attributes.{option_list}
use Rattle.declaration_rows.specs.GlobalRows.{global_at, block_names}
use Rattle.set_judge.proofs.NameLemmas.{groups_step}
use Rattle.set_judge.proofs.globals.add_group_names.Goals as goal

pub loop-group-preserved : goal.loop-group-preserved
loop-group-preserved c =
    each_more (λ gs. map (global_at c.args.statement.now true) (block_names gs)) (λ g. map (global_at c.args.statement.now true) (option_list g.block))
    (groups_step c.args.statement.now) c.args.groups.now c.loop-group.group-index c.group-item.result _ _ _ _ c.loop-group-test.true c.group-item.is
    c.loop-group.invariant c.in_ok-add_block_name.ensures

pub returns : goal.returns
unfolding block_names
returns c =
    each_end (λ gs. map (global_at c.args.statement.now true) (block_names gs)) (λ g. map (global_at c.args.statement.now true) (option_list g.block)) refl
    c.args.groups.now c.loop-group.group-index _ _ (omega arith) c.loop-group.invariant
