use Rattle.std.proofs.Common.{length}
use Rattle.stmt_lex.proofs.rows.+has_bad_quote.Given as goal

abbrev pub decreases-has_bad_quote : goal.decreases-has_bad_quote
decreases-has_bad_quote l = length l.tokens.now
