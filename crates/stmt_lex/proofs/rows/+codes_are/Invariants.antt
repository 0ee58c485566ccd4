use Rattle.std.proofs.Common.{length}
use Rattle.stmt_lex.proofs.rows.+codes_are.Given as goal

abbrev pub decreases-codes_are : goal.decreases-codes_are
decreases-codes_are l = length l.text.now
