use Rattle.std.proofs.Common.{get_or, refl, arith}
use Rattle.name_table.specs.Named.{labelled}
use Rattle.loop_ranges.specs.LoopEnds.{labelled_at}
use Rattle.loop_ranges.proofs.LabelLemmas.{places_begin, places_more, places_end}
use Rattle.loop_ranges.proofs.labels.label_places.Goals as goal

pub loop-place-init : goal.loop-place-init
loop-place-init c = λ q. places_begin (labelled c.new-places.result q) (labelled_at 0 c.args.statements.now q) (c.new-places.ensures q)

pub loop-place-preserved : goal.loop-place-preserved
loop-place-preserved c = λ q.
    places_more c.args.statements.now c.loop-place.place q (get_or c.args.statements.now c.loop-place.place c.index-statements-place.result).label c.index-statements-place.result _ _ _
    c.loop-place-test.true refl
    (c.loop-place.invariant q) (c.in_ok-note_place.ensures q)

pub returns : goal.returns
returns c = λ q. places_end c.args.statements.now c.loop-place.place q _ _ (omega arith) (c.loop-place.invariant q)
