use Rattle.std.proofs.Common.{length}
use Rattle.stmt_lex.proofs.cursor.Cursor.+starts_with.Given as goal

abbrev pub decreases-starts_with : goal.decreases-starts_with
decreases-starts_with l = length l.word.now
