use Rattle.found_rows.proofs.Walks.{then_ok}
use Rattle.f_tree.specs.Lines.{mark_of}
use Rattle.order_judge.specs.NestSteps.{mark_in}
use Rattle.order_judge.specs.declared.marks.BlockMark.TheVariants as block
use Rattle.order_judge.proofs.NestLemmas.{plain_nests, opens_nests, nests_as, nests_in}
use Rattle.order_judge.proofs.nest.add_nest_row.Goals as goal

pub returns-in-Plain : goal.returns-in-Plain
unfolding mark_in
returns-in-Plain c =
    nests_as c.mark_of.result block.Plain (mark_of c.args.statement.now.body) c.args.statement.now _ _ _ _ c.mark_of.ensures c.in-Plain.is
    (plain_nests c.args.statement.now c.args.found.now.items c.args.open_blocks.now.items)

pub returns-in-Opens : goal.returns-in-Opens
unfolding mark_in
returns-in-Opens c =
    then_ok _ _ c.open_block.result
    (λ put.
    nests_as c.mark_of.result block.Opens (mark_of c.args.statement.now.body) c.args.statement.now _ _ _ _ c.mark_of.ensures c.in-Opens.is
    (opens_nests c.args.statement.now c.args.found.now.items c.args.open_blocks.now.items _ put))
    c.open_block.ensures

pub returns-in-Arm : goal.returns-in-Arm
unfolding mark_in
returns-in-Arm c =
    then_ok _ _ c.add_arm_row.result
    (λ nests. nests_as c.mark_of.result block.Arm (mark_of c.args.statement.now.body) c.args.statement.now _ _ _ _ c.mark_of.ensures c.in-Arm.is
    (nests_in c.as_slice.result.now c.args.open_blocks.now.items _ c.args.statement.now _ _ c.as_slice.ensures.value nests))
    c.add_arm_row.ensures

pub returns-in-Closes : goal.returns-in-Closes
unfolding mark_in
returns-in-Closes c =
    then_ok _ _ c.close_block.result
    (λ nests. nests_as c.mark_of.result block.Closes (mark_of c.args.statement.now.body) c.args.statement.now _ _ _ _ c.mark_of.ensures c.in-Closes.is nests)
    c.close_block.ensures
