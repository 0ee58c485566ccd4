use Rattle.edit_rules.proofs.FormatLaws.{unique, fronts, format_of_is, format_end_is}
use Rattle.edit_rules.proofs.format_check.format_laws.Goals as goal

pub returns : goal.returns
returns c = record { unique = unique; fronts = fronts; given = format_of_is; ends = format_end_is }
