use Rattle.std.proofs.Common.{◌∙◌}
use Rattle.edit_rules.proofs.ListScans.{counted}
use Rattle.edit_rules.proofs.list_scan.as_count.Goals as goal

pub returns : goal.returns
returns c = c.within_counts.ensures ∙ counted c.args.digits.now c.folded.result c.requires c.folded.ensures
