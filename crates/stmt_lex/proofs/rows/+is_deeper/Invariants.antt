use Rattle.std.proofs.Common.{length}
use Rattle.stmt_lex.proofs.rows.+is_deeper.Given as goal

abbrev pub decreases-is_deeper : goal.decreases-is_deeper
decreases-is_deeper l = length l.tokens.now
