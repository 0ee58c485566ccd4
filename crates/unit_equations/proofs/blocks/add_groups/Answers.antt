use Rattle.std.proofs.Common.{map, sym, arith, ◌∙◌}
use Rattle.f_tree.specs.Lines.{member_of, into_block, blocks_from}
use Rattle.unit_equations.specs.BlocksTold.{naming_by}
use Rattle.unit_equations.proofs.BlockForms.{comes_on, comes_to_end, groups_step, groups_none}
use Rattle.unit_equations.proofs.blocks.add_groups.Goals as goal

pub loop-group-preserved : goal.loop-group-preserved
loop-group-preserved c =
    let names = naming_by c.args.facts.now in
    comes_on (blocks_from names) (λ bs g. into_block g.block (map (member_of names) g.items) bs) (groups_step names) c.args.groups.now c.loop-group.group-index
    c.group-item.result _ _ _ _ c.loop-group-test.true c.group-item.is c.loop-group.invariant c.in_ok-add_group.ensures

pub returns : goal.returns
returns c =
    let names = naming_by c.args.facts.now in
    sym (comes_to_end (blocks_from names) c.args.groups.now c.loop-group.group-index _ _ (omega arith) c.loop-group.invariant ∙ groups_none names _)
