-- The pieces that the text of a statement is cut into. ANSI X3.9-1978, section 2.2: names and other lexical elements; 4.3 to 4.8: constants;
-- 6: operators. A piece carries what the forms of statements need and no more. A name or a number that is too large, a constant that is not
-- closed or empty, and a character that begins nothing are pieces of their own, which no form takes.
use Rattle.std.specs.Prelude.{ℕ, Bool, List}
use Rattle.fortran_text.specs.f_tree.declared.expressions.BinaryOp.{BinaryOp}
use Rattle.fortran_lexemes.specs.declared.kinds.StmtKind.{StmtKind}
use Rattle.fortran_lexemes.specs.declared.signs.Sign.{Sign}

pub data Lexeme : Type 0 where
  -- a letter and up to 30 letters, digits and underscores, in lower case
  Name : List ℕ → Lexeme
  -- a name of more characters
  LongName : Lexeme
  -- digits, as they are written, and their value, up to 2147483647
  Number : List ℕ → ℕ → Lexeme
  -- digits with a greater value
  TooLarge : Lexeme
  -- a character constant, by the characters between its apostrophes, of which a doubled one stands once
  Quoted : List ℕ → Lexeme
  -- a character constant that is empty or not closed
  BadQuote : Lexeme
  -- an operator between two operands; `*`, `/`, `//`, `+` and `-` wherever they stand
  Infix : BinaryOp → Lexeme
  -- `.NOT.`
  Negation : Lexeme
  -- `.TRUE.` or `.FALSE.`
  Truth : Bool → Lexeme
  -- a sign that is no operator
  Mark : Sign → Lexeme
  -- the word of a statement or of a type, where one may stand
  Word : StmtKind → Lexeme
  -- TO behind the label of an ASSIGN statement
  To : Lexeme
  -- THEN behind the condition of IF or ELSE IF
  Then : Lexeme
  -- the text of a FORMAT statement, from the opening parenthesis to the closing one
  FormatText : List ℕ → Lexeme
  -- another character
  Other : ℕ → Lexeme

-- The pieces of a statement, in their order.
abbrev pub Lexemes : Type 0
Lexemes = List Lexeme
