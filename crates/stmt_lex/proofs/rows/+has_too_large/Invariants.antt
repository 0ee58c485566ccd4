use Rattle.std.proofs.Common.{length}
use Rattle.stmt_lex.proofs.rows.+has_too_large.Given as goal

abbrev pub decreases-has_too_large : goal.decreases-has_too_large
decreases-has_too_large l = length l.tokens.now
