use Rattle.declaration_laws.proofs.StatementFits.{statements_formed}
use Rattle.declaration_laws.proofs.laws.faultless_statements_are_formed.Goals as goal

pub returns : goal.returns
returns c = statements_formed
