use Rattle.std.proofs.Common.{length}
use Rattle.stmt_lex.proofs.rows.+has_other_statement.Given as goal

abbrev pub decreases-has_other_statement : goal.decreases-has_other_statement
decreases-has_other_statement l = length l.tokens.now
