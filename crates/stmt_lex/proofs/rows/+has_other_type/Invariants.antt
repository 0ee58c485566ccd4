use Rattle.std.proofs.Common.{length}
use Rattle.stmt_lex.proofs.rows.+has_other_type.Given as goal

abbrev pub decreases-has_other_type : goal.decreases-has_other_type
decreases-has_other_type l = length l.tokens.now
