use Rattle.std.proofs.Common.{ap, ◌∙◌}
use Rattle.edit_rules.proofs.FormatReads.{sign_shown}
use Rattle.edit_rules.specs.FormatParts.{Sign}
use Rattle.edit_rules.proofs.format_parts.begin.Goals as goal

pub returns-clause-value : goal.returns-clause-value
returns-clause-value c character rest s = ap (λ (z : Sign). z.behind) (c.sign_at.ensures.value ∙ sign_shown c.args.text.now character rest s)
