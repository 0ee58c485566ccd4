use Rattle.std.proofs.Common.{ap}
use Rattle.edit_rules.specs.FormatParts.{logical_by, logical_part}
use Rattle.edit_rules.proofs.format_parts.logical.Goals as goal

pub returns-clause-value : goal.returns-clause-value
unfolding logical_part
returns-clause-value c = ap (logical_by c.args.times) c.number_at-counted.ensures.value
