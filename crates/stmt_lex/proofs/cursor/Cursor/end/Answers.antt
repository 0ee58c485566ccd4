use Rattle.fortran_text.specs.CharactersOfText.{characters_from}
use Rattle.fortran_lexemes.specs.KindsOfStatements.{outside_constants}
use Rattle.stmt_lex.specs.Cursors.{outside_from}
use Rattle.stmt_lex.proofs.cursor.Cursor.end.Goals as goal

pub returns : goal.returns
unfolding outside_from characters_from outside_constants
returns c = c.of_text.ensures
