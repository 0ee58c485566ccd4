use Rattle.std.proofs.Common.{ap, ◌∙◌}
use Rattle.declaration_rows.specs.Verdicts.{first_of}
use Rattle.placing_judge.proofs.judge.placing_fault.Goals as goal

pub returns : goal.returns
returns c = λ options. c.first_of.ensures ∙ ap first_of (c.as_slice.ensures.value ∙ c.in_ok-found.ensures.are options)
