use Rattle.std.proofs.Common.{refl, get_or, arith}
use Rattle.found_rows.proofs.Walks.{each_more, each_end}
use Rattle.f_tree.specs.Uses.{without}
use Rattle.name_table.specs.Named.{texts}
use Rattle.name_uses.specs.UsesSeen.{used_in, use_of, unless_hidden}
use Rattle.name_uses.proofs.ItemForms.{no_use, without_step, without_none}
use Rattle.name_uses.specs.declared.uses.Use.{Use}
use Rattle.name_uses.proofs.items.add_without.Goals as goal

pub loop-one-preserved : goal.loop-one-preserved
loop-one-preserved c =
    each_more (λ us. without (texts c.args.hidden.now) (used_in us)) (λ (u : Use). unless_hidden (texts c.args.hidden.now) (use_of u))
    (without_step (texts c.args.hidden.now)) c.args.inner.now c.loop-one.one-index (get_or c.args.inner.now c.loop-one.one-index no_use) no_use _ _ _ c.loop-one-test.true refl
    c.loop-one.invariant c.in_ok-add_unless_hidden.ensures

pub returns : goal.returns
returns c =
    each_end (λ us. without (texts c.args.hidden.now) (used_in us)) (λ (u : Use). unless_hidden (texts c.args.hidden.now) (use_of u))
    (without_none (texts c.args.hidden.now)) c.args.inner.now c.loop-one.one-index _ _ (omega arith) c.loop-one.invariant
