-- Texts of statements without a label, and whether they spell one. ANSI X3.9-1978, sections 8 to 16; MIL-STD-1753. Blanks mean nothing
-- outside constants.
use Rattle.std.specs.Prelude.{◌≡◌, ℕ, true, false, List, [], ◌∷◌, codes, Some}
use Rattle.fortran_grammar.specs.f_tree.declared.statements.Body.{Body}
use Rattle.fortran_grammar.specs.fortran_lexemes.KindsOfStatements.{kind_of_statement}
use Rattle.fortran_grammar.specs.fortran_lexemes.PiecesOfStatements.{pieces}
use Rattle.fortran_grammar.specs.fortran_lexemes.declared.kinds.StmtKind.{StmtKind}
use Rattle.fortran_grammar.specs.fortran_text.CharactersOfText.{characters}
use Rattle.fortran_grammar.specs.StatementSpelling.{SpellsBody}

-- The text of a statement that begins its unit spells a tree.
abbrev pub IsStatement : List ℕ → Type 0
IsStatement text = (k : StmtKind) × (b : Body) × (kind_of_statement true false text ≡ Some k) × SpellsBody (pieces k (characters false text)) b

abbrev pub IsNone : List ℕ → Type 0
IsNone text = (k : StmtKind) (b : Body) → kind_of_statement true false text ≡ Some k → SpellsBody (pieces k (characters false text)) b → ⊥

abbrev pub AllAre : (List ℕ → Type 0) → List (List ℕ) → Type 0
AllAre P [] = Unit {0}
AllAre P (text ∷ texts) = P text × AllAre P texts

-- Texts that spell a statement.
unfoldable pub statement_texts : List (List ℕ)
statement_texts =
    codes "I=1" ∷ codes "F(X)=X+1" ∷ codes "F()=2" ∷ codes "A(1)(2:3)='X'" ∷ codes "ASSIGN 10 TO I" ∷ codes "GO TO 10"
    ∷ codes "GOTO (10,20),I" ∷ codes "GOTO I,(10,20)" ∷ codes "IF(I)10,20,30" ∷ codes "IF(L)GOTO 10" ∷ codes "IF(L.AND.M)THEN"
    ∷ codes "IF(L) A=B" ∷ codes "IF(L) CALL S(*10)" ∷ codes "ELSE IF(L)THEN" ∷ codes "ELSE" ∷ codes "END IF" ∷ codes "ENDDO"
    ∷ codes "DO 10 I=1,10" ∷ codes "DO 10,I=1,10,2" ∷ codes "DO I=1,N" ∷ codes "DO WHILE(L)" ∷ codes "DO 10 WHILE(L)"
    ∷ codes "DO 10, WHILE(L)" ∷ codes "CONTINUE" ∷ codes "CALL S" ∷ codes "CALL S()" ∷ codes "CALL S(A,B+1)" ∷ codes "RETURN"
    ∷ codes "RETURN 1" ∷ codes "STOP" ∷ codes "STOP 77" ∷ codes "STOP 'X'" ∷ codes "END" ∷ codes "PROGRAM P"
    ∷ codes "SUBROUTINE S(A,*)" ∷ codes "SUBROUTINE S" ∷ codes "FUNCTION F(X)" ∷ codes "INTEGER FUNCTION F()"
    ∷ codes "CHARACTER*(*) FUNCTION F(X)" ∷ codes "BLOCK DATA" ∷ codes "BLOCK DATA B" ∷ codes "INTEGER A,B(3),C(0:3,*)"
    ∷ codes "INTEGER*4 A" ∷ codes "LOGICAL L" ∷ codes "CHARACTER*5 A,B*3,C(2)*(*)" ∷ codes "CHARACTER A*4"
    ∷ codes "CHARACTER*(2+3),A" ∷ codes "DIMENSION A(3),B(N)" ∷ codes "COMMON A,B" ∷ codes "COMMON /X/A,B(2),/Y/C//D"
    ∷ codes "COMMON // A" ∷ codes "EQUIVALENCE (A,B(1)),(C,D(1:2))" ∷ codes "IMPLICIT INTEGER(A-C,X),CHARACTER*(3)(D)"
    ∷ codes "IMPLICIT NONE" ∷ codes "PARAMETER (N=3,M=N+1)" ∷ codes "EXTERNAL F,G" ∷ codes "INTRINSIC MOD" ∷ codes "SAVE"
    ∷ codes "SAVE A,/B/" ∷ codes "DATA A,B/1,2*3/C/'X'/" ∷ codes "DATA (A(I),I=1,3)/3*0/"
    ∷ codes "DATA ((A(I,J),I=1,3),J=1,N)/-1,.TRUE.,+2/" ∷ codes "FORMAT(I5)" ∷ codes "ENTRY E(A)" ∷ codes "ENTRY E"
    ∷ codes "READ *,A" ∷ codes "READ 10" ∷ codes "READ(5,10)A,(B(I),I=1,3)" ∷ codes "READ(5,'(I5)',END=10,ERR=20,IOSTAT=K)A"
    ∷ codes "READ(UNIT=5,FMT=*)A" ∷ codes "WRITE(*,*)" ∷ codes "WRITE(6,10)A+B,(C)" ∷ codes "PRINT *,'X',I+1" ∷ codes "PRINT '(A)',A"
    ∷ codes "PRINT *" ∷ codes "OPEN(10,FILE='X',STATUS='OLD',ACCESS='SEQUENTIAL',FORM='FORMATTED',BLANK='ZERO')"
    ∷ codes "OPEN(UNIT=10)" ∷ codes "CLOSE(10,STATUS='KEEP')" ∷ codes "BACKSPACE 5" ∷ codes "BACKSPACE(5,ERR=10)" ∷ codes "ENDFILE 5"
    ∷ codes "REWIND(UNIT=5)" ∷ codes "INCLUDE 'x.inc'" ∷ []

-- Texts that spell none.
unfoldable pub other_texts : List (List ℕ)
other_texts =
    codes "I=" ∷ codes "READ(5)A" ∷ codes "IF(L)DO 10 I=1,2" ∷ codes "IF(L)END" ∷ codes "DO 100000 I=1,2" ∷ codes "CHARACTER,A"
    ∷ codes "INTEGER*2 A" ∷ codes "INTEGER A*2" ∷ codes "REWIND(5)+1" ∷ codes "OPEN(10,STATUS='KEEP')"
    ∷ codes "CLOSE(10,STATUS='OLD')" ∷ codes "READ(*,*,UNIT=3)A" ∷ codes "WRITE(6,10,END=3)" ∷ codes "EQUIVALENCE(A)"
    ∷ codes "DATA A/1" ∷ codes "DATA A,/1/" ∷ codes "COMMON A," ∷ codes "FUNCTION F" ∷ codes "INQUIRE(5)" ∷ codes "REAL X"
    ∷ codes "PAUSE" ∷ codes "STOP 123456" ∷ codes "GOTO" ∷ codes "IMPLICIT INTEGER(C-A)" ∷ codes "CALL S(,)" ∷ codes "'A'(1:2)=3"
    ∷ codes "A(1:2)(1:2)='X'" ∷ codes "I=A.LT." ∷ codes "READ('(A)'),X" ∷ codes "PARAMETER(N,3)" ∷ []
