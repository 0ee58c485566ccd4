use Rattle.std.proofs.Common.{length}
use Rattle.stmt_lex.proofs.rows.+undoubled_is.Given as goal

abbrev pub decreases-undoubled_is : goal.decreases-undoubled_is
decreases-undoubled_is l = length l.text.now
