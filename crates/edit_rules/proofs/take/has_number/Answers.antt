use Rattle.edit_rules.proofs.TakeSteps.{both_then, both_else}
use Rattle.edit_rules.proofs.take.has_number.Goals as goal

pub returns-then-has_digit : goal.returns-then-has_digit
returns-then-has_digit c = both_then c.args.zero_blanks c.args.digits.now _ _ c.has_digit.ensures c.all_digits.ensures c.if-has_digit.true

pub returns-else-has_digit : goal.returns-else-has_digit
returns-else-has_digit c = both_else c.args.zero_blanks c.args.digits.now _ c.has_digit.ensures c.if-has_digit.false
