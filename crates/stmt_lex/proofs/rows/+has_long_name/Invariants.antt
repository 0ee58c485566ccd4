use Rattle.std.proofs.Common.{length}
use Rattle.stmt_lex.proofs.rows.+has_long_name.Given as goal

abbrev pub decreases-has_long_name : goal.decreases-has_long_name
decreases-has_long_name l = length l.tokens.now
