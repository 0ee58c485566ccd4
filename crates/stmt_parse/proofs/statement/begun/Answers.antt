-- The pieces of a statement that a word begins are the word and those behind it.
use Rattle.std.proofs.Common.{sym, subst}
use Rattle.expression_parse.specs.Readings.{Gives}
use Rattle.stmt_parse.proofs.StatementLemmas.{begun-word}
use Rattle.stmt_parse.proofs.statement.begun.Goals as goal

pub returns : goal.returns
returns c =
    subst (λ o. Gives (λ found. found) c.worded.result o) (sym (begun-word c.args.text.now c.args.tokens.now c.args.rest.now c.args.kind c.requires)) c.worded.ensures
