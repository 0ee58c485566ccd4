use Rattle.std.proofs.Common.{refl, get_or}
use Rattle.statement_lowering.proofs.LabelLists.{once_begins, once_more, once_done}
use Rattle.statement_lowering.proofs.label_lists.each_once.Goals as goal

pub loop-place-init : goal.loop-place-init
loop-place-init c = once_begins c.args.labels.now c.new-once.result.items c.new-once.ensures.items

pub loop-place-preserved : goal.loop-place-preserved
loop-place-preserved c =
    once_more c.args.labels.now c.loop-place.place (get_or c.args.labels.now c.loop-place.place 0) c.loop-place.once.items c.add_unless_again.new.once.items c.loop-place-test.true refl
    c.in_ok-add_unless_again.ensures c.loop-place.invariant

pub returns : goal.returns
returns c = once_done c.args.labels.now c.loop-place.place c.loop-place.once.items c.loop-place-test.false c.loop-place.invariant
