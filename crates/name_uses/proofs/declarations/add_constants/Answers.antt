use Rattle.std.proofs.Common.{◌++◌, arith}
use Rattle.f_tree.specs.Uses as written
use Rattle.f_tree.specs.Uses.{all_of, used, uses_of}
use Rattle.f_tree.specs.declared.statements.ConstantDefinition.{ConstantDefinition}
use Rattle.name_uses.proofs.UseWalks.{all_more, all_end}
use Rattle.name_uses.proofs.declarations.add_constants.Goals as goal

pub loop-constant-preserved : goal.loop-constant-preserved
loop-constant-preserved c =
    all_more (λ (d : ConstantDefinition). used d.name written.Declared ++ uses_of d.value) c.args.constants.now c.loop-constant.constant-index c.constant-item.result _ _ _ _ c.loop-constant-test.true c.constant-item.is c.loop-constant.invariant
    (c.in_ok-add_constant.ensures)

pub returns : goal.returns
returns c = all_end (λ (d : ConstantDefinition). used d.name written.Declared ++ uses_of d.value) c.args.constants.now c.loop-constant.constant-index _ _ (omega arith) c.loop-constant.invariant
