use Rattle.std.proofs.Common.{length}
use Rattle.stmt_lex.proofs.classes.+begins.Given as goal

abbrev pub decreases-begins : goal.decreases-begins
decreases-begins l = length l.word.now
