use Rattle.found_rows.proofs.Walks.{then_ok}
use Rattle.loop_ranges.specs.FirstLoops.{first_at}
use Rattle.loop_ranges.specs.OpenRanges.{innermost_first}
use Rattle.loop_ranges.proofs.CrossingLemmas.{first_noted, first_kept, open_noted, open_kept}
use Rattle.loop_ranges.proofs.crossing.note_range.Goals as goal

pub returns-in_ok-push-in-Some-clause-firsts : goal.returns-in_ok-push-in-Some-clause-firsts
returns-in_ok-push-in-Some-clause-firsts c =
    then_ok _ _ c.note.result
    (λ put k. first_noted (first_at c.args.firsts.now k) (first_at c.note.new.self k) c.args.end c.args.first c.in-Some.last k c.in-Some.is (put k)) c.note.ensures

pub returns-in_ok-push-in-Some-clause-open_ranges : goal.returns-in_ok-push-in-Some-clause-open_ranges
returns-in_ok-push-in-Some-clause-open_ranges c =
    then_ok _ _ c.note.result (λ put. open_noted c.args.end c.args.first c.in-Some.last c.args.open_ranges.now.items _ c.in-Some.is c.in_ok-push-in-Some.ensures.items) c.note.ensures

pub returns-in-None : goal.returns-in-None
returns-in-None c = record {
  firsts = λ k. first_kept (first_at c.args.firsts.now k) c.args.end c.args.first k c.in-None.is;
  open_ranges = open_kept c.args.end c.args.first (innermost_first c.args.open_ranges.now.items) c.in-None.is;
}
