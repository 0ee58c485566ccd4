use Rattle.edit_rules.proofs.PartSteps.{sign_moved}
use Rattle.edit_rules.proofs.TakeSteps.{whole_rest}
use Rattle.edit_rules.proofs.format_parts.sign_at.Goals as goal

pub returns-clause-value : goal.returns-clause-value
returns-clause-value c =
    sign_moved c.args.text.now c.args.at c.character-sign.result.character c.character-sign.result.behind _ (whole_rest c.args.text.now c.args.at) c.character-sign.ensures.value
