use Rattle.declaration_laws.proofs.ExpressionFits.{expressions_fit}
use Rattle.declaration_laws.proofs.laws.faultless_expressions_are_typed.Goals as goal

pub returns : goal.returns
returns c = expressions_fit
