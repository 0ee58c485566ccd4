use Rattle.std.proofs.Common.{◌≡◌}
use Rattle.std.proofs.lemmas.Result.{IfOk-weaker}
use Rattle.fortran_grammar.specs.UnitsOfFile.{pieces_of}
use Rattle.fortran_lexemes.specs.declared.kinds.StmtKind.TheVariants as kind
use Rattle.stmt_lex.specs.SeenTokens.{seen}
use Rattle.source_acceptance.specs.SourceFiles.{quoted_name}
use Rattle.source_reader.proofs.NameLemmas.{name_in_list, name_of_refused}
use Rattle.source_reader.proofs.mentions.quoted_name.Goals as goal

pub returns-in-Ok : goal.returns-in-Ok
returns-in-Ok c =
    IfOk-weaker c.name_of_tokens.result (λ name. name ≡ quoted_name (seen c.text.result.now c.tokens-in-Ok.result.now))
    (λ name. name ≡ quoted_name (pieces_of kind.Include c.args.statement.now))
    (λ name is. name_in_list c.args.statement.now c.is_some.result c.as_slice.result.now c.in-Ok.list c.text.result.now c.tokens-in-Ok.result.now name
    c.is_some.ensures c.as_slice.ensures c.in-Ok.ensures.ok c.text.ensures c.tokens-in-Ok.ensures is)
    c.name_of_tokens.ensures

pub returns-in-Err-Refused : goal.returns-in-Err-Refused
returns-in-Err-Refused c =
    name_of_refused c.args.statement.now c.is_some.result c.as_slice.result.now c.in-Err-Refused.field-0 c.in-Err-Refused.field-0-0 c.is_some.ensures
    c.as_slice.ensures c.in-Err-Refused.field-0-is c.in-Err-Refused.ensures.err
