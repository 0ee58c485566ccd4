use Rattle.edit_rules.proofs.PartSteps.{number_moved}
use Rattle.edit_rules.proofs.TakeSteps.{whole_rest}
use Rattle.edit_rules.proofs.format_parts.number_at.Goals as goal

pub returns-clause-value : goal.returns-clause-value
returns-clause-value c =
    number_moved c.args.text.now c.args.at c.number-counted.result.number c.number-counted.result.behind _ (whole_rest c.args.text.now c.args.at) c.number-counted.ensures.value
