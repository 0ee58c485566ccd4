-- What the reader of tokens gives for the characters of a text.
use Rattle.std.specs.Prelude.{◌≡◌, List, Some, None}
use Rattle.fortran_text.specs.declared.characters.Character.{Character}
use Rattle.fortran_lexemes.specs.LexicalRows.{first_lexical_row}
use Rattle.fortran_lexemes.specs.PiecesOfStatements.{pieces}
use Rattle.fortran_lexemes.specs.declared.kinds.StmtKind.{StmtKind}
use Rattle.stmt_lex.specs.SeenTokens.{seen}
use Rattle.stmt_lex.specs.declared.token.LexFail.{LexFail}
use Rattle.stmt_lex.specs.declared.token.LexFail.TheVariants.{NoMemory, Refused}
use Rattle.stmt_lex.specs.declared.token.TokenList.{TokenList}

-- Tokens: they are the pieces of the text, and it has no row.
pub record IsTokenList (kind : StmtKind) (text : List Character) (found : TokenList) : Type 0 where
  pub characters : found.text ≡ text
  pub tokens : seen text found.tokens ≡ pieces kind text
  pub accepted : first_lexical_row kind (pieces kind text) ≡ None

-- A refusal: the first row of the pieces of the text.
abbrev pub IsLexFail : StmtKind → List Character → LexFail → Type 0
IsLexFail kind text NoMemory = Unit {0}
IsLexFail kind text (Refused row) = first_lexical_row kind (pieces kind text) ≡ Some row
