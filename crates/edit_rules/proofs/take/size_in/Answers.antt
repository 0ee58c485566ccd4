use Rattle.std.proofs.Common.{◌∙◌}
use Rattle.edit_rules.proofs.TakeSteps.{size_is}
use Rattle.edit_rules.proofs.take.size_in.Goals as goal

pub returns : goal.returns
returns c = c.folded.ensures ∙ size_is c.args.zero_blanks c.args.digits.now c.requires
