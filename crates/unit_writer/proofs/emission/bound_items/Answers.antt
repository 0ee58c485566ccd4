use Rattle.std.proofs.Common.{sym, ◌∙◌, arith}
use Rattle.item_emitter.specs.Knowing.{known_of}
use Rattle.unit_writer.proofs.ItemLaws.{in_front-start}
use Rattle.unit_writer.proofs.KeptItems.{kept_items, kept_more, kept_stop, kept_end}
use Rattle.unit_writer.proofs.emission.bound_items.Goals as goal

pub loop-one-init : goal.loop-one-init
loop-one-init c = in_front-start c.new-items.result.items (kept_items (known_of c.args.known.now) c.args.bounds.now) c.new-items.ensures.items

pub loop-one-preserved : goal.loop-one-preserved
loop-one-preserved c =
    kept_more (known_of c.args.known.now) c.args.bounds.now c.loop-one.one-index _ _ c.in-Some.item _ _ _ c.loop-one-test.true c.one-item.is (sym c.in-Some.is ∙ c.in_ok-item.ensures)
    c.loop-one.invariant c.in_ok-push.ensures.items

pub returns : goal.returns
returns c = kept_end (known_of c.args.known.now) c.args.bounds.now c.loop-one.one-index _ _ (omega arith) c.loop-one.invariant

pub returns-in_default : goal.returns-in_default
returns-in_default c =
    kept_stop (known_of c.args.known.now) c.args.bounds.now c.loop-one.one-index _ _ _ _ c.loop-one-test.true c.one-item.is (sym c.in_default.is ∙ c.in_ok-item.ensures) c.loop-one.invariant
