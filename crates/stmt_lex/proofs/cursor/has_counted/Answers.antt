use Rattle.stmt_lex.specs.CursorWalks.{left}
use Rattle.stmt_lex.proofs.CursorLemmas.{counted_there}
use Rattle.stmt_lex.proofs.cursor.has_counted.Goals as goal

pub returns-then-labelled : goal.returns-then-labelled
returns-then-labelled c =
    counted_there c.args.labelled c.starts_with.result (left c.of_text.result) c.args.text.now c.if-labelled.true c.starts_with.ensures c.of_text.ensures
