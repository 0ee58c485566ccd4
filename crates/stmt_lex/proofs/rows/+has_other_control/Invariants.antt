use Rattle.std.proofs.Common.{length}
use Rattle.stmt_lex.proofs.rows.+has_other_control.Given as goal

abbrev pub decreases-has_other_control : goal.decreases-has_other_control
decreases-has_other_control l = length l.tokens.now
