use Rattle.std.proofs.Common.{ap, ◌∙◌}
use Rattle.edit_rules.specs.FormatParts.{blanks_by, blanks_part}
use Rattle.edit_rules.specs.PartPlaces.{parted_in}
use Rattle.edit_rules.proofs.format_parts.blanks.Goals as goal

pub returns-clause-value : goal.returns-clause-value
unfolding blanks_part
returns-clause-value c = ap (parted_in c.args.text.now) c.once.ensures ∙ ap blanks_by c.sign_at-sign.ensures.value
