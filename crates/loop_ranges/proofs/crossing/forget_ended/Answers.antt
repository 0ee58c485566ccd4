use Rattle.std.proofs.Common.{◌-◌, ◌<◌, List, length, sym, ap, ◌∙◌, arith}
use Rattle.std.proofs.lemmas.List.{length-take-le}
use Rattle.loop_ranges.specs.OpenRanges.{innermost_first, has_ended}
use Rattle.loop_ranges.specs.declared.crossing.Range.{Range}
use Rattle.loop_ranges.proofs.CrossingLemmas.{forgets_more, forgets_end, some_ended}
use Rattle.loop_ranges.proofs.crossing.forget_ended.Goals as goal

pub loop-open_ranges-preserved : goal.loop-open_ranges-preserved
loop-open_ranges-preserved c =
    forgets_more c.args.place c.loop-open_ranges.open_ranges.items c.pop.new.self.items c.pop.result _
    (sym (c.has_ended.ensures ∙ ap (λ (rs : List Range). has_ended c.args.place (innermost_first rs)) c.as_slice.ensures.value) ∙ c.loop-open_ranges-test.true) c.pop.ensures.items
    c.loop-open_ranges.invariant

pub loop-open_ranges-smaller : goal.loop-open_ranges-smaller
loop-open_ranges-smaller c =
    let ranges = c.loop-open_ranges.open_ranges in
    let some : 0 < length ranges.items =
    some_ended c.args.place ranges.items
    (sym (c.has_ended.ensures ∙ ap (λ (rs : List Range). has_ended c.args.place (innermost_first rs)) c.as_slice.ensures.value) ∙ c.loop-open_ranges-test.true) in
    omega (arith, some, ranges.ok.0, ap length c.pop.ensures.rest, length-take-le (ranges.len - 1) ranges.items (omega (arith, ranges.ok.0)))

pub returns : goal.returns
returns c =
    forgets_end c.args.place c.loop-open_ranges.open_ranges.items _
    (sym (c.has_ended.ensures ∙ ap (λ (rs : List Range). has_ended c.args.place (innermost_first rs)) c.as_slice.ensures.value) ∙ c.loop-open_ranges-test.false) c.loop-open_ranges.invariant
