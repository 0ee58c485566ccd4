-- Names of included files, as the code finds them.
use Rattle.std.specs.Prelude.{ℕ, Bool, true, false, List, [], ◌∷◌, ◌++◌, Option, Some, None, if◌then◌else◌}
use Rattle.fortran_text.specs.StatementsOfFile.{FileCards}
use Rattle.fortran_text.specs.declared.source.Statement.{Statement}
use Rattle.fortran_lexemes.specs.declared.kinds.StmtKind.TheVariants as kind
use Rattle.fortran_grammar.specs.UnitsOfFile.{pieces_of, may_stand}
use Rattle.stmt_lex.specs.declared.token.Span.{Span}
use Rattle.stmt_lex.specs.declared.token.Token.{Token}
use Rattle.stmt_lex.specs.declared.token.Token.TheVariants as token
use Rattle.source_acceptance.specs.SourceFiles.{quoted_name, names_in}

-- The names that the statements of files mention.
unfoldable pub mentioned_in_cards : List FileCards → List (List ℕ)
mentioned_in_cards [] = []
mentioned_in_cards (cards ∷ more) = names_in cards.statements ++ mentioned_in_cards more

-- The name in an INCLUDE statement, where that may stand so.
abbrev pub name_where_it_stands : Statement → Option (List ℕ)
name_where_it_stands s = if may_stand kind.Include s then quoted_name (pieces_of kind.Include s) else None

abbrev pub is_include : Token → Bool
is_include (token.Word kind.Include) = true
is_include _ = false

abbrev pub span_of : Token → Option Span
span_of (token.Quoted span) = Some span
span_of _ = None

-- The constant of two tokens that are the word INCLUDE and a constant.
abbrev pub span_behind : Token → Token → Option Span
span_behind first second = if is_include first then span_of second else None

abbrev pub quoted_span : List Token → Option Span
quoted_span (first ∷ second ∷ []) = span_behind first second
quoted_span _ = None
