use Rattle.std.proofs.Common.{List, ap, ◌∙◌}
use Rattle.loop_ranges.specs.FirstLoops.{first_at}
use Rattle.loop_ranges.specs.OpenRanges.{innermost_first, first_of_innermost, begins_before}
use Rattle.loop_ranges.specs.declared.crossing.Range.{Range}
use Rattle.loop_ranges.proofs.CrossingLemmas.{passes}
use Rattle.loop_ranges.proofs.crossing.pass_place.Goals as goal

pub returns : goal.returns
returns c =
    passes c.args.place c.args.end c.args.ranges.now _ (innermost_first c.note_range.new.open_ranges.items) c.begins_before.result c.in_ok-note_range.ensures.firsts
    c.in_ok-note_range.ensures.open_ranges c.forget_ended.ensures
    (c.begins_before.ensures ∙ ap (λ o. begins_before o c.first_of_innermost-inner.result) c.get-first.ensures
    ∙ ap (begins_before (first_at c.note_range.new.firsts c.args.place))
    (c.first_of_innermost-inner.ensures ∙ ap (λ (rs : List Range). first_of_innermost (innermost_first rs)) c.as_slice.ensures.value))
