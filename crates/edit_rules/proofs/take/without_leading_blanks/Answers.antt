use Rattle.edit_rules.proofs.TakeSteps.{tail_is}
use Rattle.edit_rules.proofs.take.without_leading_blanks.Goals as goal

pub returns : goal.returns
returns c = tail_is c.args.field.now _ c.leading_blanks.ensures
