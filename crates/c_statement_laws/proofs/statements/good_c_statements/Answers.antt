use Rattle.c_statement_laws.proofs.StatementGood.{good_statements, good_blocks}
use Rattle.c_statement_laws.proofs.BodyGood.{good_bodies}
use Rattle.c_statement_laws.proofs.statements.good_c_statements.Goals as goal

pub returns : goal.returns
returns c = record { statements = good_statements; blocks = good_blocks; bodies = good_bodies }
