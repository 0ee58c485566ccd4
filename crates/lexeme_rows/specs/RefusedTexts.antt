-- Texts of statements beside the first of the rows F12 to F17 that refuses them. ANSI X3.9-1978, sections 2.2, 4.3, 4.8, 8.4, 11 and 12.
use Rattle.std.specs.Prelude.{ℕ, false, Option, None, Some, List, [], ◌∷◌, ◌++◌, codes, replicate}
use Rattle.fortran_lexemes.specs.f_tree.declared.refusals.Kind.{Kind}
use Rattle.fortran_lexemes.specs.f_tree.declared.refusals.Kind.TheVariants as row_is
use Rattle.fortran_lexemes.specs.fortran_text.CharactersOfText.{characters}
use Rattle.fortran_lexemes.specs.LexicalRows.{first_lexical_row}
use Rattle.fortran_lexemes.specs.PiecesOfStatements.{pieces}
use Rattle.fortran_lexemes.specs.declared.kinds.StmtKind.{StmtKind}
use Rattle.fortran_lexemes.specs.declared.kinds.StmtKind.TheVariants as kind

-- the kind of a statement, its text, and its first row
pub record Row : Type 0 where
  pub kind : StmtKind
  pub text : List ℕ
  pub refused : Option Kind

abbrev row : StmtKind → List ℕ → Option Kind → Row
row kind text refused = record { kind = kind; text = text; refused = refused }

abbrev pub found : Row → Option Kind
found row = first_lexical_row row.kind (pieces row.kind (characters false row.text))

abbrev pub wanted : Row → Option Kind
wanted row = row.refused

-- an assignment of so many parentheses
abbrev nested : ℕ → List ℕ
nested depth = codes "I=" ++ replicate depth 40 ++ codes "1" ++ replicate depth 41

unfoldable pub rows : List Row
rows =
    row kind.Assignment (codes "I = 2147483648.5") (Some row_is.IntegerTooLarge)
    ∷ row kind.Assignment (codes "A23456789012345678901234567890_1 = ''") (Some row_is.NameTooLong)
    ∷ row kind.Assignment (codes "C = '' + 1.5") (Some row_is.BadCharacterConstant)
    ∷ row kind.Assignment (codes "I = 1.5") (Some row_is.TypeNotSupported)
    ∷ row kind.Assignment (codes "I = 5.") (Some row_is.TypeNotSupported)
    ∷ row kind.Assignment (codes "L = A.LT..5") (Some row_is.TypeNotSupported)
    ∷ row kind.Assignment (codes "I = A1.5") (Some row_is.TypeNotSupported)
    ∷ row kind.Assignment (codes "I = A1.") None
    ∷ row kind.Assignment (codes "I = 1E5") None
    ∷ row kind.Assignment (codes "L = 1.EQ.J") None
    ∷ row kind.Real (codes "REAL A") (Some row_is.TypeNotSupported)
    ∷ row kind.DoublePrecision (codes "DOUBLE PRECISION A") (Some row_is.TypeNotSupported)
    ∷ row kind.Function (codes "COMPLEX FUNCTION F(X)") (Some row_is.TypeNotSupported)
    ∷ row kind.Implicit (codes "IMPLICIT INTEGER (A), REAL (B)") (Some row_is.TypeNotSupported)
    ∷ row kind.Implicit (codes "IMPLICIT INTEGER (REAL)") None
    ∷ row kind.Integer (codes "INTEGER*2 I") (Some row_is.TypeNotSupported)
    ∷ row kind.Integer (codes "INTEGER*4 I") None
    ∷ row kind.Integer (codes "INTEGER I*2") None
    ∷ row kind.Inquire (codes "INQUIRE (5)") (Some row_is.StatementOrSpecifierNotSupported)
    ∷ row kind.If (codes "IF (L) INQUIRE (5)") (Some row_is.StatementOrSpecifierNotSupported)
    ∷ row kind.ElseIf (codes "ELSE IF (L) PAUSE") None
    ∷ row kind.Read (codes "READ (5, REC=3) I") (Some row_is.StatementOrSpecifierNotSupported)
    ∷ row kind.Read (codes "READ (5, *) (I, REC=1,3)") None
    ∷ row kind.Read (codes "READ *, (I, REC=1,3)") None
    ∷ row kind.OpenUnit (codes "OPEN (5, FORM='FORMATTED', STATUS='OLD', ACCESS='SEQUENTIAL', BLANK='ZERO')") None
    ∷ row kind.OpenUnit (codes "OPEN (5, STATUS='SCRATCH')") (Some row_is.StatementOrSpecifierNotSupported)
    ∷ row kind.OpenUnit (codes "OPEN (5, STATUS='old')") (Some row_is.StatementOrSpecifierNotSupported)
    ∷ row kind.OpenUnit (codes "OPEN (5, STATUS=S)") None
    ∷ row kind.OpenUnit (codes "OPEN (5, FILE='SCRATCH')") None
    ∷ row kind.Close (codes "CLOSE (5, STATUS='KEEP')") None
    ∷ row kind.Close (codes "CLOSE (5, STATUS='DELETE')") (Some row_is.StatementOrSpecifierNotSupported)
    ∷ row kind.Assignment (nested 64) None
    ∷ row kind.Assignment (nested 65) (Some row_is.NestingTooDeep)
    ∷ row kind.Format (codes "FORMAT (1.5, 2147483648)") None
    ∷ row kind.Format (codes "FORMAT (I3, '')") (Some row_is.BadCharacterConstant)
    ∷ row kind.Format (codes "FORMAT" ++ replicate 65 40 ++ codes "I3" ++ replicate 65 41) (Some row_is.NestingTooDeep)
    ∷ []
