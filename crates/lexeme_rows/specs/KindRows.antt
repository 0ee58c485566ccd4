-- Texts of statements beside their kinds. ANSI X3.9-1978, section 3.3, and MIL-STD-1753: keywords are not reserved.
use Rattle.std.specs.Prelude.{ℕ, Bool, true, false, Option, None, Some, List, [], ◌∷◌, codes}
use Rattle.fortran_lexemes.specs.KindsOfStatements.{kind_of_statement}
use Rattle.fortran_lexemes.specs.declared.kinds.StmtKind.{StmtKind}
use Rattle.fortran_lexemes.specs.declared.kinds.StmtKind.TheVariants as kind

-- whether the statement is the first of its unit, its text, and its kind
pub record Row : Type 0 where
  pub first : Bool
  pub text : List ℕ
  pub kind : Option StmtKind

abbrev later : List ℕ → Option StmtKind → Row
later text kind = record { first = false; text = text; kind = kind }

abbrev first : List ℕ → Option StmtKind → Row
first text kind = record { first = true; text = text; kind = kind }

abbrev pub found : Row → Option StmtKind
found row = kind_of_statement row.first false row.text

abbrev pub wanted : Row → Option StmtKind
wanted row = row.kind

unfoldable pub rows : List Row
rows =
    later (codes "DO 10 I = 1.5") (Some kind.Assignment)
    ∷ later (codes "DO10I=15") (Some kind.Assignment)
    ∷ later (codes "DO 10 I=1,5") (Some kind.Do)
    ∷ later (codes "do 10 i = f(1, 2)") (Some kind.Assignment)
    ∷ later (codes "A(1,2) = 3") (Some kind.Assignment)
    ∷ later (codes "C = 'A,B'") (Some kind.Assignment)
    ∷ later (codes "A(I)=B,C") (Some kind.Do)
    ∷ later (codes "IF(I)=3") (Some kind.Assignment)
    ∷ later (codes "IF(A)10,20,30") (Some kind.If)
    ∷ later (codes "IF(A)B=1") (Some kind.If)
    ∷ later (codes "IF (C.EQ.')') GO TO 10") (Some kind.If)
    ∷ later (codes "IF(A)THEN") (Some kind.If)
    ∷ later (codes "FORMAT(I)=3") (Some kind.Assignment)
    ∷ later (codes "FORMAT (I5, '=')") (Some kind.Format)
    ∷ later (codes "CALL=1") (Some kind.Assignment)
    ∷ later (codes "REALFUNCTION=2") (Some kind.Assignment)
    ∷ first (codes "INTEGERFUNCTIONX(1)") (Some kind.Function)
    ∷ later (codes "INTEGERFUNCTIONX(1)") (Some kind.Integer)
    ∷ first (codes "CHARACTER*(*) FUNCTION F(X)") (Some kind.Function)
    ∷ first (codes "INTEGER FUNCTION F") (Some kind.Integer)
    ∷ later (codes "ELSEIF(A)THEN") (Some kind.ElseIf)
    ∷ later (codes "ELSE") (Some kind.Else)
    ∷ later (codes "END IF") (Some kind.EndIf)
    ∷ later (codes "ENDIF=1") (Some kind.Assignment)
    ∷ later (codes "END FILE 5") (Some kind.EndFile)
    ∷ later (codes "E N D") (Some kind.End)
    ∷ later (codes "PRINT=3") (Some kind.Assignment)
    ∷ later (codes "PRINT *, I") (Some kind.Print)
    ∷ later (codes "DATA(3)=1") (Some kind.Assignment)
    ∷ later (codes "GOTO(10,20),I") (Some kind.Goto)
    ∷ later (codes "ASSIGN10TOI") (Some kind.Assign)
    ∷ later (codes "DOWHILE(I)=1") (Some kind.Assignment)
    ∷ later (codes "DO WHILE(I.LT.3)") (Some kind.DoWhile)
    ∷ later (codes "DO 10 WHILE(L)") (Some kind.DoWhile)
    ∷ later (codes "DO 10, WHILE(L)") (Some kind.DoWhile)
    ∷ later (codes "DO WHILE(L)X") None
    ∷ later (codes "END DO") (Some kind.EndDo)
    ∷ later (codes "INCLUDE 'b.inc'") (Some kind.Include)
    ∷ later (codes "BLOCK DATA") (Some kind.BlockData)
    ∷ later (codes "DOUBLE PRECISION D") (Some kind.DoublePrecision)
    ∷ later (codes "") None
    ∷ later (codes "   ") None
    ∷ later (codes "FOO") None
    ∷ []
