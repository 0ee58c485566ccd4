use Rattle.std.proofs.Common.{map, ◌++◌, ap, ◌∙◌, arith}
use Rattle.found_rows.proofs.Walks.{each_more, each_end}
use Rattle.f_tree.specs.Attributes.{array_names, shape_of_array, members_of}
use Rattle.f_tree.specs.declared.statements.CommonGroup.{CommonGroup}
use Rattle.name_table.specs.Named.{names_in}
use Rattle.name_uses.proofs.ArrayLemmas.{groups_step, groups_none}
use Rattle.name_uses.proofs.arrays.add_groups.Goals as goal

pub loop-group-preserved : goal.loop-group-preserved
loop-group-preserved c = record {
  is_set = c.in_ok-add_members.ensures.is_set;
  names = each_more (λ gs. array_names (map shape_of_array (members_of gs))) (λ (g : CommonGroup). array_names (map shape_of_array g.items)) groups_step c.args.groups.now c.loop-group.group-index c.group-item.result _ _ _ _ c.loop-group-test.true c.group-item.is
      c.loop-group.invariant.names (c.in_ok-add_members.ensures.put ∙ ap (λ ds. names_in c.loop-group.arrays ++ array_names (map shape_of_array ds)) c.as_slice.ensures);
}

pub returns : goal.returns
returns c = record {
  put = each_end (λ gs. array_names (map shape_of_array (members_of gs))) (λ (g : CommonGroup). array_names (map shape_of_array g.items)) groups_none c.args.groups.now c.loop-group.group-index _ _ (omega arith) c.loop-group.invariant.names;
  is_set = c.loop-group.invariant.is_set;
}
