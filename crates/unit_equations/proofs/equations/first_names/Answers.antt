use Rattle.std.proofs.Common.{List, map, arith}
use Rattle.declaration_rows.specs.PlacingRows.{first_item, first_items}
use Rattle.unit_equations.specs.declared.blocks.Block.{Block}
use Rattle.unit_equations.specs.BlocksTold.{block_in}
use Rattle.unit_equations.proofs.BlockForms.{each_more, each_end, firsts_step, firsts_none}
use Rattle.unit_equations.proofs.equations.first_names.Goals as goal

pub loop-block-preserved : goal.loop-block-preserved
loop-block-preserved c =
    each_more (λ (bs : List Block). first_items (map block_in bs)) (λ (b : Block). first_item (block_in b))
    (λ b bs. firsts_step (block_in b) (map block_in bs)) c.args.blocks.now c.loop-block.block-index c.block-item.result _ _ _ _ c.loop-block-test.true c.block-item.is
    c.loop-block.invariant c.in_ok-add_first.ensures

pub returns : goal.returns
returns c =
    each_end (λ (bs : List Block). first_items (map block_in bs)) (λ (b : Block). first_item (block_in b)) firsts_none
    c.args.blocks.now c.loop-block.block-index _ _ (omega arith) c.loop-block.invariant
