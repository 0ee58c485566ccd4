use Rattle.std.proofs.Common.{suc, refl, arith}
use Rattle.item_emission.specs.NamedEmission.{label_cases}
use Rattle.item_emitter.proofs.SelectionWalks.{labels-begin, labels-more, labels-end}
use Rattle.item_emitter.proofs.selection.label_cases.Goals as goal

pub loop-passed-init : goal.loop-passed-init
loop-passed-init c = labels-begin c.args.position c.args.labels.now c.new-row.result.items c.new-row.ensures.items

pub loop-passed-preserved : goal.loop-passed-preserved
loop-passed-preserved c =
    labels-more c.args.position c.args.labels.now c.loop-passed.passed _ c.in_ok-place.place c.in_ok-next.next (label_cases (suc c.args.position) c.args.labels.now) c.loop-passed.row.items _
    c.loop-passed-test.true refl c.in_ok-place.ensures c.in_ok-next.ensures c.in_ok-push.ensures.items c.loop-passed.invariant

pub returns : goal.returns
returns c = labels-end c.args.position c.args.labels.now c.loop-passed.passed (label_cases (suc c.args.position) c.args.labels.now) c.loop-passed.row.items c.loop-passed-test.false c.loop-passed.invariant
