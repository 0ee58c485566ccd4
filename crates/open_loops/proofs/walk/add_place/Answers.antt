use Rattle.std.proofs.Common.{refl, ap, ◌∙◌}
use Rattle.open_loops.specs.OpenRanges.{ended_among, innermost_first}
use Rattle.open_loops.proofs.WalkLemmas.{ended_by}
use Rattle.open_loops.proofs.walk.add_place.Goals as goal

pub returns : goal.returns
returns c = record {
  place = record { free = c.args.around.now.free; ended = c.in_ok-ended.ended };
  added = c.in_ok-push.ensures.items;
  free_is = refl;
  ended_is = c.in_ok-ended.ensures ∙ ended_by c.args.place c.as_slice.result.now ∙ ap (λ ls. ended_among c.args.place (innermost_first ls)) c.as_slice.ensures.value;
}
