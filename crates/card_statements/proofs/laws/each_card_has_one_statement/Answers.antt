use Rattle.card_statements.proofs.OneStatement.{one_statement}
use Rattle.card_statements.proofs.laws.each_card_has_one_statement.Goals as goal

pub returns : goal.returns
returns c = one_statement
