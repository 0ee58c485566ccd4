use Rattle.std.proofs.Common.{length}
use Rattle.stmt_lex.proofs.steps.+first_type.Given as goal

abbrev pub decreases-first_type : goal.decreases-first_type
decreases-first_type l = length l.kinds.now
