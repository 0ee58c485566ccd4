use Rattle.std.proofs.Common.{◌∙◌}
use Rattle.loop_ranges.proofs.EndLemmas.{unit_ends_by}
use Rattle.loop_ranges.proofs.ends.loop_ends.Goals as goal

pub returns : goal.returns
returns c =
    c.reverse.ensures.items ∙ c.in_ok-ends.ensures ∙ unit_ends_by c.in_ok-labels.labels c.args.statements.now c.in_ok-labels.ensures
