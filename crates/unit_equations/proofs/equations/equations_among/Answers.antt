use Rattle.std.proofs.Common.{List, ◌++◌, map, ap, ◌∙◌, arith}
use Rattle.declaration_rows.specs.PlacingRows.{member_equations, block_equations}
use Rattle.unit_equations.specs.declared.blocks.Block.{Block}
use Rattle.unit_equations.specs.BlocksTold.{member_in, block_in, equation_in}
use Rattle.unit_equations.proofs.BlockForms.{each_more, each_end, equations_step, equations_none}
use Rattle.unit_equations.proofs.equations.equations_among.Goals as goal

pub loop-block-preserved : goal.loop-block-preserved
loop-block-preserved c =
    each_more (λ (bs : List Block). block_equations (map block_in bs)) (λ (b : Block). member_equations (map member_in b.members.items))
    (λ b bs. equations_step (block_in b) (map block_in bs)) c.args.blocks.now c.loop-block.block-index c.block-item.result _ _ _ _ c.loop-block-test.true c.block-item.is
    c.loop-block.invariant
    (c.in_ok-add_members.ensures ∙ ap (λ ms. map equation_in c.loop-block.equations.items ++ member_equations (map member_in ms)) c.as_slice.ensures.value)

pub returns : goal.returns
returns c =
    each_end (λ (bs : List Block). block_equations (map block_in bs)) (λ (b : Block). member_equations (map member_in b.members.items)) equations_none
    c.args.blocks.now c.loop-block.block-index _ _ (omega arith) c.loop-block.invariant
