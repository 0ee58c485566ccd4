use Rattle.std.proofs.Common.{◌++◌, ap, ◌∙◌, arith}
use Rattle.f_tree.specs.Uses as written
use Rattle.f_tree.specs.Uses.{all_of, used}
use Rattle.f_tree.specs.Values.{Bytes}
use Rattle.name_uses.specs.UsesSeen.{manner_in}
use Rattle.name_uses.specs.UsesSeen.{used_in}
use Rattle.name_uses.proofs.UseWalks.{all_more, all_end}
use Rattle.name_uses.proofs.declarations.add_names.Goals as goal

pub loop-name-preserved : goal.loop-name-preserved
unfolding manner_in
loop-name-preserved c =
    all_more (λ (x : Bytes). used x written.Declared) c.args.names.now c.loop-name.name-index c.name-item.result _ _ _ _ c.loop-name-test.true c.name-item.is c.loop-name.invariant
    (c.in_ok-add_use.ensures ∙ ap (λ x. used_in c.loop-name.uses.items ++ used x written.Declared) c.as_slice.ensures)

pub returns : goal.returns
returns c = all_end (λ (x : Bytes). used x written.Declared) c.args.names.now c.loop-name.name-index _ _ (omega arith) c.loop-name.invariant
