use Rattle.std.proofs.Common.{subst}
use Rattle.fortran_text.specs.CharactersOfText.{characters}
use Rattle.stmt_lex.specs.TokensOfTexts.{IsLexFail}
use Rattle.statement_reader.proofs.ReaderLemmas.{lex_failed}
use Rattle.statement_reader.proofs.reader.body_of_kind.Goals as goal

pub returns-in-Err : goal.returns-in-Err
returns-in-Err c =
    lex_failed c.args.kind c.args.source.now c.in-Err.fail
    (subst (λ labelled. IsLexFail c.args.kind (characters labelled c.args.source.now.text) c.in-Err.fail) c.is_some.ensures
    (subst (λ text. IsLexFail c.args.kind (characters c.is_some.result text) c.in-Err.fail) c.as_slice.ensures c.in-Err.ensures.err))
