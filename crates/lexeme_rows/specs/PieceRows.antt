-- Texts of statements beside their pieces. ANSI X3.9-1978, sections 2.2 and 3.3, and MIL-STD-1753.
use Rattle.std.specs.Prelude.{ℕ, Bool, true, false, List, [], ◌∷◌, ◌++◌, codes}
use Rattle.fortran_lexemes.specs.f_tree.declared.expressions.BinaryOp.TheVariants as op
use Rattle.fortran_lexemes.specs.fortran_text.CharactersOfText.{characters}
use Rattle.fortran_lexemes.specs.Lexemes.{Lexeme, Lexemes, Name, LongName, Number, TooLarge, Quoted, BadQuote, Infix, Negation, Truth, Mark, Word, To, Then, FormatText, Other}
use Rattle.fortran_lexemes.specs.PiecesOfStatements.{pieces}
use Rattle.fortran_lexemes.specs.declared.kinds.StmtKind.{StmtKind}
use Rattle.fortran_lexemes.specs.declared.kinds.StmtKind.TheVariants as kind
use Rattle.fortran_lexemes.specs.declared.signs.Sign.TheVariants as sign

-- the kind of a statement, whether it is labelled, its text, and its pieces
pub record Row : Type 0 where
  pub kind : StmtKind
  pub labelled : Bool
  pub text : List ℕ
  pub pieces : Lexemes

abbrev row : StmtKind → List ℕ → Lexemes → Row
row kind text pieces = record { kind = kind; labelled = false; text = text; pieces = pieces }

abbrev labelled_row : StmtKind → List ℕ → Lexemes → Row
labelled_row kind text pieces = record { kind = kind; labelled = true; text = text; pieces = pieces }

abbrev pub found : Row → Lexemes
found row = pieces row.kind (characters row.labelled row.text)

abbrev pub wanted : Row → Lexemes
wanted row = row.pieces

abbrev name : List ℕ → Lexeme
name text = Name text

abbrev opening : Lexeme
opening = Mark sign.Open

abbrev closing : Lexeme
closing = Mark sign.Close

abbrev comma : Lexeme
comma = Mark sign.Comma

abbrev equals : Lexeme
equals = Mark sign.Equals

abbrev point : Lexeme
point = Mark sign.Point

abbrev one : Lexeme
one = Number (codes "1") 1

abbrev ten : Lexeme
ten = Number (codes "10") 10

abbrev number : List ℕ → ℕ → Lexeme
number digits value = Number digits value

-- words of statements
unfoldable pub rows_of_words : List Row
rows_of_words =
    row kind.Do (codes "DO 10 I = 1, 5")
    (Word kind.Do ∷ ten ∷ name (codes "i") ∷ equals ∷ one ∷ comma ∷ number (codes "5") 5 ∷ [])
    ∷ row kind.Do (codes "A(I) = B, C")
    (name (codes "a") ∷ opening ∷ name (codes "i") ∷ closing ∷ equals ∷ name (codes "b") ∷ comma ∷ name (codes "c") ∷ [])
    ∷ row kind.Assignment (codes "DO 10 I = 1.5") (name (codes "do10i") ∷ equals ∷ one ∷ point ∷ number (codes "5") 5 ∷ [])
    ∷ row kind.DoWhile (codes "DO 10, WHILE (WHILE)")
    (Word kind.DoWhile ∷ ten ∷ comma ∷ opening ∷ name (codes "while") ∷ closing ∷ [])
    ∷ row kind.DoWhile (codes "DO WHILE (L)") (Word kind.DoWhile ∷ opening ∷ name (codes "l") ∷ closing ∷ [])
    ∷ row kind.Assign (codes "ASSIGN 10 TO TOTAL") (Word kind.Assign ∷ ten ∷ To ∷ name (codes "total") ∷ [])
    ∷ row kind.Assign (codes "ASSIGN A TO B") (Word kind.Assign ∷ name (codes "atob") ∷ [])
    ∷ row kind.If (codes "IF (THEN) THEN") (Word kind.If ∷ opening ∷ name (codes "then") ∷ closing ∷ Then ∷ [])
    ∷ row kind.If (codes "IF (A(1)) 10, 10, 10")
    (Word kind.If ∷ opening ∷ name (codes "a") ∷ opening ∷ one ∷ closing ∷ closing ∷ ten ∷ comma ∷ ten ∷ comma ∷ ten ∷ [])
    ∷ row kind.If (codes "IF (L) GO TO 10") (Word kind.If ∷ opening ∷ name (codes "l") ∷ closing ∷ Word kind.Goto ∷ ten ∷ [])
    ∷ row kind.If (codes "IF (L) THEN = 1") (Word kind.If ∷ opening ∷ name (codes "l") ∷ closing ∷ name (codes "then") ∷ equals ∷ one ∷ [])
    ∷ row kind.If (codes "IF (L) ASSIGN 10 TO I")
    (Word kind.If ∷ opening ∷ name (codes "l") ∷ closing ∷ Word kind.Assign ∷ ten ∷ To ∷ name (codes "i") ∷ [])
    ∷ row kind.ElseIf (codes "ELSE IF (L) THEN") (Word kind.ElseIf ∷ opening ∷ name (codes "l") ∷ closing ∷ Then ∷ [])
    ∷ row kind.ElseIf (codes "ELSE IF (L) STOP") (Word kind.ElseIf ∷ opening ∷ name (codes "l") ∷ closing ∷ name (codes "stop") ∷ [])
    ∷ row kind.Implicit (codes "IMPLICIT INTEGER*4 (A-REAL), LOGICAL (B)")
    (Word kind.Implicit ∷ Word kind.Integer ∷ Infix op.Times ∷ number (codes "4") 4 ∷ opening ∷ name (codes "a") ∷ Infix op.Minus
    ∷ name (codes "real") ∷ closing ∷ comma ∷ Word kind.Logical ∷ opening ∷ name (codes "b") ∷ closing ∷ [])
    ∷ row kind.Implicit (codes "IMPLICIT NONE") (Word kind.Implicit ∷ name (codes "none") ∷ [])
    ∷ row kind.Function (codes "CHARACTER*(FUNCTION) FUNCTION F(X)")
    (Word kind.Character ∷ Infix op.Times ∷ opening ∷ name (codes "function") ∷ closing ∷ Word kind.Function ∷ name (codes "f")
    ∷ opening ∷ name (codes "x") ∷ closing ∷ [])
    ∷ row kind.Function (codes "INTEGER*4FUNCTIONF(X)")
    (Word kind.Integer ∷ Infix op.Times ∷ number (codes "4") 4 ∷ Word kind.Function ∷ name (codes "f") ∷ opening ∷ name (codes "x")
    ∷ closing ∷ [])
    ∷ row kind.Function (codes "FUNCTION REAL(X)")
    (Word kind.Function ∷ name (codes "real") ∷ opening ∷ name (codes "x") ∷ closing ∷ [])
    ∷ row kind.Integer (codes "INTEGER FUNCTION F(X)")
    (Word kind.Integer ∷ name (codes "functionf") ∷ opening ∷ name (codes "x") ∷ closing ∷ [])
    ∷ []

-- texts of FORMAT statements
unfoldable pub rows_of_formats : List Row
rows_of_formats =
    labelled_row kind.Format (codes "FORMAT (I3, 3H)'', 'A B')")
    (Word kind.Format ∷ FormatText (codes "(i3,3h)'','A B')") ∷ [])
    ∷ row kind.Format (codes "FORMAT (99999999999)") (Word kind.Format ∷ FormatText (codes "(99999999999)") ∷ [])
    ∷ row kind.Format (codes "FORMAT ('')") (Word kind.Format ∷ opening ∷ BadQuote ∷ closing ∷ [])
    ∷ row kind.Format (codes "FORMAT (I3)X")
    (Word kind.Format ∷ opening ∷ Other 105 ∷ Other 51 ∷ closing ∷ Other 120 ∷ [])
    ∷ []

-- names, constants, operators and signs
unfoldable pub rows_of_pieces : List Row
rows_of_pieces =
    row kind.Assignment (codes "C = 'IT''S' // 'A'")
    (name (codes "c") ∷ equals ∷ Quoted (codes "IT'S") ∷ Infix op.Concatenate ∷ Quoted (codes "A") ∷ [])
    ∷ row kind.Assignment (codes "C = 'A' 'B'") (name (codes "c") ∷ equals ∷ Quoted (codes "A") ∷ Quoted (codes "B") ∷ [])
    ∷ row kind.Assignment (codes "C = ''") (name (codes "c") ∷ equals ∷ BadQuote ∷ [])
    ∷ row kind.Assignment (codes "C = ''''") (name (codes "c") ∷ equals ∷ Quoted (codes "'") ∷ [])
    ∷ row kind.Assignment (codes "C = 'A") (name (codes "c") ∷ equals ∷ BadQuote ∷ [])
    ∷ row kind.Assignment (codes "A2345678901234567890123456789_1 = 1")
    (name (codes "a2345678901234567890123456789_1") ∷ equals ∷ one ∷ [])
    ∷ row kind.Assignment (codes "A23456789012345678901234567890_1 = 1") (LongName ∷ equals ∷ one ∷ [])
    ∷ row kind.Assignment (codes "I = 2 147 483 647") (name (codes "i") ∷ equals ∷ number (codes "2147483647") 2147483647 ∷ [])
    ∷ row kind.Assignment (codes "I = 2147483648") (name (codes "i") ∷ equals ∷ TooLarge ∷ [])
    ∷ row kind.Assignment (codes "L = 1.EQ.J") (name (codes "l") ∷ equals ∷ one ∷ Infix op.Equal ∷ name (codes "j") ∷ [])
    ∷ row kind.Assignment (codes "L = A.LT..5")
    (name (codes "l") ∷ equals ∷ name (codes "a") ∷ Infix op.Less ∷ point ∷ number (codes "5") 5 ∷ [])
    ∷ row kind.Assignment (codes "L = .NOT..TRUE..AND..FALSE..NEQV.L")
    (name (codes "l") ∷ equals ∷ Negation ∷ Truth true ∷ Infix op.And ∷ Truth false ∷ Infix op.NotEquivalent ∷ name (codes "l") ∷ [])
    ∷ row kind.Assignment (codes "I = J**2*3/K+1-L")
    (name (codes "i") ∷ equals ∷ name (codes "j") ∷ Infix op.Power ∷ number (codes "2") 2 ∷ Infix op.Times ∷ number (codes "3") 3
    ∷ Infix op.Divide ∷ name (codes "k") ∷ Infix op.Plus ∷ one ∷ Infix op.Minus ∷ name (codes "l") ∷ [])
    ∷ row kind.Assignment (codes "S(1:10) = $1E5")
    (name (codes "s") ∷ opening ∷ one ∷ Mark sign.Colon ∷ ten ∷ closing ∷ equals ∷ Other 36 ∷ one ∷ name (codes "e5") ∷ [])
    ∷ row kind.Common (codes "COMMON // I / B / J")
    (Word kind.Common ∷ Infix op.Concatenate ∷ name (codes "i") ∷ Infix op.Divide ∷ name (codes "b") ∷ Infix op.Divide
    ∷ name (codes "j") ∷ [])
    ∷ []

unfoldable pub rows : List Row
rows = rows_of_words ++ rows_of_formats ++ rows_of_pieces
