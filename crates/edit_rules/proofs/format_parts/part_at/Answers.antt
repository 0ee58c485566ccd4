use Rattle.std.proofs.Common.{ap, ◌∙◌}
use Rattle.edit_rules.specs.FormatParts.{part_by, part_behind, part_of}
use Rattle.edit_rules.proofs.format_parts.part_at.Goals as goal

pub returns-clause-value : goal.returns-clause-value
unfolding part_of
returns-clause-value c =
    c.mark.ensures.value ∙ ap (part_by c.number_at-counted.result.number) c.sign_at.ensures.value ∙ ap part_behind c.number_at-counted.ensures.value
