use Rattle.std.proofs.Common.{arith}
use Rattle.f_tree.specs.Uses.{uses_of_declarator}
use Rattle.name_uses.proofs.UseWalks.{all_more, all_end}
use Rattle.name_uses.proofs.declarations.add_declarators.Goals as goal

pub loop-declarator-preserved : goal.loop-declarator-preserved
loop-declarator-preserved c =
    all_more uses_of_declarator c.args.declarators.now c.loop-declarator.declarator-index c.declarator-item.result _ _ _ _ c.loop-declarator-test.true c.declarator-item.is c.loop-declarator.invariant
    (c.in_ok-add_declarator.ensures)

pub returns : goal.returns
returns c = all_end uses_of_declarator c.args.declarators.now c.loop-declarator.declarator-index _ _ (omega arith) c.loop-declarator.invariant
