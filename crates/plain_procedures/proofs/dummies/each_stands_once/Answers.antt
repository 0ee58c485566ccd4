use Rattle.std.proofs.Common.{ap, ◌∙◌}
use Rattle.plain_procedures.specs.ToldHeadings.{stand_once}
use Rattle.plain_procedures.proofs.Headings.{once-known}
use Rattle.plain_procedures.proofs.dummies.each_stands_once.Goals as goal

pub returns : goal.returns
returns c = c.stand_once.ensures ∙ ap stand_once c.as_slice.ensures ∙ once-known c.args.unit.now.dummies
