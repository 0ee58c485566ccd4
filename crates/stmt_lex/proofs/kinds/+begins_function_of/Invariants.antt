use Rattle.std.proofs.Common.{length}
use Rattle.stmt_lex.proofs.kinds.+begins_function_of.Given as goal

abbrev pub decreases-begins_function_of : goal.decreases-begins_function_of
decreases-begins_function_of l = length l.kinds.now
