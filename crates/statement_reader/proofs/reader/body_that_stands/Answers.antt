use Rattle.std.proofs.Common.{subst, Err}
use Rattle.fortran_grammar.specs.StatementSpelling.{SpellsBody}
use Rattle.stmt_lex.specs.SeenTokens.{seen}
use Rattle.stmt_parse.specs.expression_parse.Readings.{IsExact}
use Rattle.statement_reader.proofs.ReaderLemmas.{spelled_text, spells_nothing}
use Rattle.statement_reader.proofs.reader.body_that_stands.Goals as goal

pub returns-in-Ok : goal.returns-in-Ok
returns-in-Ok c = spelled_text c.args.kind c.args.source.now c.args.list.now c.text.result.now c.tokens.result.now c.in-Ok.body c.requires.tokens c.text.ensures c.tokens.ensures c.requires.stands c.in-Ok.ensures.0

pub returns-in-Err-Syntax : goal.returns-in-Err-Syntax
returns-in-Err-Syntax c =
    spells_nothing c.args.kind c.args.source.now c.args.list.now c.text.result.now c.tokens.result.now c.requires.tokens c.text.ensures c.tokens.ensures
    (subst (λ f. IsExact (λ b. SpellsBody (seen c.text.result.now c.tokens.result.now) b) (Err f)) c.in-Err-Syntax.field-0-is c.in-Err-Syntax.ensures)
