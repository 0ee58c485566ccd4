use Rattle.std.proofs.Common.{sym, ◌∙◌, arith}
use Rattle.item_emitter.specs.Knowing.{known_of}
use Rattle.unit_writer.proofs.ItemLaws.{items_more, items_stop, items_end}
use Rattle.unit_writer.proofs.emission.step_items.Goals as goal

pub loop-position-preserved : goal.loop-position-preserved
loop-position-preserved c =
    items_more (known_of c.args.known.now) c.args.kinds.now c.args.steps.now c.loop-position.position c.kept_before-kept.result c.index-steps-position.result _ c.in-Some.item _ _ _
    c.loop-position-test.true c.index-steps-position.is c.kept_before-kept.ensures (sym c.in-Some.is ∙ c.in_ok-item.ensures) c.loop-position.invariant c.in_ok-push.ensures.items

pub returns : goal.returns
returns c = items_end (known_of c.args.known.now) c.args.kinds.now c.args.steps.now c.loop-position.position _ _ (omega arith) c.loop-position.invariant

pub returns-in_default : goal.returns-in_default
returns-in_default c =
    items_stop (known_of c.args.known.now) c.args.kinds.now c.args.steps.now c.loop-position.position c.kept_before-kept.result c.index-steps-position.result _ _ _
    c.loop-position-test.true c.index-steps-position.is c.kept_before-kept.ensures (sym c.in_default.is ∙ c.in_ok-item.ensures) c.loop-position.invariant
