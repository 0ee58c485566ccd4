use Rattle.std.proofs.Common.{map, ap, ◌∙◌}
use Rattle.lowered_text.specs.Texts.{marked_of}
use Rattle.behind_bounds.specs.BehindBounds.{steps_behind, mark_behind}
use Rattle.text_behind.proofs.BehindLemmas.{position-same}
use Rattle.text_behind.proofs.text.behind.Goals as goal

pub returns : goal.returns
returns c = λ u is. record {
  steps = c.in_ok-steps.ensures ∙ ap (steps_behind c.args.first) is.steps;
  marks = c.in_ok-marks.ensures ∙ ap (λ ms. map (mark_behind c.args.first) (map marked_of ms)) c.as_slice.ensures.value ∙ ap (map (mark_behind c.args.first)) is.marks;
  labels = λ label. c.in_ok-labels.ensures label ∙ position-same c.args.first _ u.position label (is.labels label);
}
