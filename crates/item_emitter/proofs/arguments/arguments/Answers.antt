use Rattle.std.proofs.Common.{sym, ◌∙◌, arith}
use Rattle.item_emitter.specs.Knowing.{known_of}
use Rattle.item_emitter.proofs.ArgumentWalks.{arguments-begin, arguments-past-label, arguments-next, arguments-stop, arguments-end}
use Rattle.item_emitter.proofs.arguments.arguments.Goals as goal

pub loop-source-init : goal.loop-source-init
loop-source-init c = arguments-begin (known_of c.args.known.now) c.args.sources.now _ c.new-row.ensures.items

pub loop-source-preserved-then-is_label : goal.loop-source-preserved-then-is_label
loop-source-preserved-then-is_label c =
    arguments-past-label (known_of c.args.known.now) c.args.sources.now c.loop-source.source-index c.source-item.result _ _ c.loop-source.row.items
    c.loop-source-test.true c.source-item.is (sym c.is_label.ensures ∙ c.if-is_label.true) c.loop-source.invariant

pub returns-in-None : goal.returns-in-None
returns-in-None c =
    arguments-stop (known_of c.args.known.now) c.args.sources.now c.loop-source.source-index c.source-item.result _ _ c.loop-source.row.items
    c.loop-source-test.true c.source-item.is (sym c.is_label.ensures ∙ c.if-is_label.false) (sym c.in-None.is ∙ c.in_ok-one.ensures) c.loop-source.invariant

pub loop-source-preserved : goal.loop-source-preserved
loop-source-preserved c =
    arguments-next (known_of c.args.known.now) c.args.sources.now c.loop-source.source-index c.source-item.result _ _ c.loop-source.row.items _ c.in-Some.one
    c.loop-source-test.true c.source-item.is (sym c.is_label.ensures ∙ c.if-is_label.false) (sym c.in-Some.is ∙ c.in_ok-one.ensures) c.in_ok-push-in-Some.ensures.items c.loop-source.invariant

pub returns : goal.returns
returns c = arguments-end (known_of c.args.known.now) c.args.sources.now c.loop-source.source-index _ c.loop-source.row.items (omega arith) c.loop-source.invariant
