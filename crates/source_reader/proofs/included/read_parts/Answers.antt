use Rattle.std.proofs.Common.{subst}
use Rattle.source_reader.specs.PartReading.{IsPartRead}
use Rattle.source_reader.proofs.PartLemmas.{parts_start, parts_go_on}
use Rattle.source_reader.proofs.included.read_parts.Goals as goal

pub loop-place-init : goal.loop-place-init
loop-place-init c = parts_start c.args.options.now.long_cards c.args.first c.new.result c.new-2.result c.new.ensures c.new-2.ensures

pub loop-place-preserved : goal.loop-place-preserved
loop-place-preserved c =
    parts_go_on c.args.options.now.long_cards c.args.first c.in-Some.file c.args.included.now c.loop-place.place c.index-included-place.result c.loop-place.parts
    c.in_ok-parts.parts c.in_ok-read_part.field-0 c.loop-place-test.true c.index-included-place.is c.in-Some.ensures.1 c.loop-place.invariant
    (subst (λ b. IsPartRead c.args.options.now.long_cards c.in-Some.file b c.in_ok-read_part.field-0) c.as_slice.ensures c.in_ok-read_part.ensures)
    c.in_ok-parts.ensures
