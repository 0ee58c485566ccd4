use Rattle.formatted_output.proofs.ActLaws.{acts-by}
use Rattle.formatted_output.proofs.acts.turn_of.Goals as goal

pub returns-in_default : goal.returns-in_default
returns-in_default c text = acts-by text c.args.edit c.in_default.not-Int c.in_default.not-Logical c.in_default.not-Text c.in_default.not-Done c.in_default.not-NoDescriptor
