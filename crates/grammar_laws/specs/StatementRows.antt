-- Pieces with the statement that they spell, or none. ANSI X3.9-1978, sections 8 to 12 and 15; MIL-STD-1753.
use Rattle.std.specs.Prelude.{ℕ, pos, true, List, [], ◌∷◌, codes, Option, Some, None}
use Rattle.fortran_grammar.specs.f_tree.declared.expressions.BinaryOp.TheVariants as operator
use Rattle.fortran_grammar.specs.f_tree.declared.expressions.Expr.{Expr}
use Rattle.fortran_grammar.specs.f_tree.declared.expressions.Expr as expr
use Rattle.fortran_grammar.specs.f_tree.declared.names.Basic.TheVariants as basic
use Rattle.fortran_grammar.specs.f_tree.declared.statements.ArrayDeclarator.{ArrayDeclarator}
use Rattle.fortran_grammar.specs.f_tree.declared.statements.AuxiliaryKind.TheVariants as auxiliary
use Rattle.fortran_grammar.specs.f_tree.declared.statements.Body.{Body}
use Rattle.fortran_grammar.specs.f_tree.declared.statements.Declarator.{Declarator}
use Rattle.fortran_grammar.specs.f_tree.declared.statements.DataGroup.{DataGroup}
use Rattle.fortran_grammar.specs.f_tree.declared.statements.DataValue.{DataValue}
use Rattle.fortran_grammar.specs.f_tree.declared.statements.CommonGroup.{CommonGroup}
use Rattle.fortran_grammar.specs.f_tree.declared.statements.LengthSpec.{LengthSpec}
use Rattle.fortran_grammar.specs.f_tree.declared.statements.Body as body
use Rattle.fortran_grammar.specs.f_tree.declared.statements.Control.{Control}
use Rattle.fortran_grammar.specs.f_tree.declared.statements.ControlValue.{ControlValue}
use Rattle.fortran_grammar.specs.f_tree.declared.statements.ControlValue.TheVariants as value
use Rattle.fortran_grammar.specs.f_tree.declared.statements.ControlWord.{ControlWord}
use Rattle.fortran_grammar.specs.f_tree.declared.statements.ControlWord.TheVariants as word
use Rattle.fortran_grammar.specs.f_tree.declared.statements.Dimension.{Dimension}
use Rattle.fortran_grammar.specs.f_tree.declared.statements.Direction.TheVariants as way
use Rattle.fortran_grammar.specs.f_tree.declared.statements.DummyArgument.TheVariants as dummy
use Rattle.fortran_grammar.specs.f_tree.declared.statements.LengthSpec.TheVariants as length'
use Rattle.fortran_grammar.specs.f_tree.declared.statements.ListItem.{ListItem}
use Rattle.fortran_grammar.specs.f_tree.declared.statements.ListItem as item
use Rattle.fortran_grammar.specs.f_tree.declared.statements.LoopControl.{LoopControl}
use Rattle.fortran_grammar.specs.f_tree.declared.statements.SavedItem.TheVariants as saved
use Rattle.fortran_grammar.specs.f_tree.declared.statements.TypeSpec.{TypeSpec}
use Rattle.fortran_grammar.specs.f_tree.declared.statements.UnitKind.TheVariants as unit
use Rattle.fortran_grammar.specs.f_tree.declared.statements.UpperBound.TheVariants as upper
use Rattle.fortran_grammar.specs.fortran_lexemes.Lexemes.{Lexeme, Lexemes, Name, Number, Quoted, Infix, Truth, Mark, Word, To, Then}
use Rattle.fortran_grammar.specs.fortran_lexemes.declared.kinds.StmtKind.TheVariants as kind
use Rattle.fortran_grammar.specs.fortran_lexemes.declared.signs.Sign.TheVariants as sign
use Rattle.fortran_grammar.specs.StatementSpelling.{SpellsBody}

pub record Row : Type 0 where
  pub pieces : Lexemes
  pub tree : Option Body

-- The pieces spell the statement, or none.
abbrev pub Says : Lexemes → Option Body → Type 0
Says pieces (Some b) = SpellsBody pieces b
Says pieces None = (b : Body) → SpellsBody pieces b → ⊥

abbrev pub AllSay : List Row → Type 0
AllSay [] = Unit {0}
AllSay (row ∷ rows) = Says row.pieces row.tree × AllSay rows

abbrev spelled : Lexemes → Body → Row
spelled pieces b = record { pieces = pieces; tree = Some b }

abbrev none : Lexemes → Row
none pieces = record { pieces = pieces; tree = None }

-- Pieces, and the expressions that they are by themselves.
abbrev a : Lexeme
a = Name (codes "a")

abbrev b : Lexeme
b = Name (codes "b")

abbrev i : Lexeme
i = Name (codes "i")

abbrev one : Lexeme
one = Number (codes "1") 1

abbrev two : Lexeme
two = Number (codes "2") 2

abbrev four : Lexeme
four = Number (codes "4") 4

abbrev ten : Lexeme
ten = Number (codes "10") 10

abbrev too_long : Lexeme
too_long = Number (codes "100000") 100000

abbrev opened : Lexeme
opened = Mark sign.Open

abbrev closed : Lexeme
closed = Mark sign.Close

abbrev comma : Lexeme
comma = Mark sign.Comma

abbrev equals : Lexeme
equals = Mark sign.Equals

abbrev colon : Lexeme
colon = Mark sign.Colon

abbrev star : Lexeme
star = Infix operator.Times

abbrev slash : Lexeme
slash = Infix operator.Divide

abbrev minus : Lexeme
minus = Infix operator.Minus

abbrev name_a : Expr
name_a = expr.Name (codes "a")

abbrev name_b : Expr
name_b = expr.Name (codes "b")

abbrev name_i : Expr
name_i = expr.Name (codes "i")

abbrev int : ℕ → Expr
int n = expr.Int (pos n)

abbrev loop_1_to_2 : LoopControl
loop_1_to_2 = record { variable = codes "i"; first = int 1; limit = int 2; step = None }

abbrev control : ControlWord → ControlValue → Control
control w v = record { word = w; value = v }

abbrev type : TypeSpec
type = record { basic = basic.Integer; length = None }

abbrev array : List ℕ → List Dimension → ArrayDeclarator
array name dimensions = record { name = name; dimensions = dimensions }

abbrev up_to : Expr → Dimension
up_to e = record { lower = None; upper = upper.Value e }

abbrev declarator : List ℕ → List Dimension → Option LengthSpec → Declarator
declarator name dimensions length = record { name = name; dimensions = dimensions; length = length }

abbrev common : Option (List ℕ) → List ArrayDeclarator → CommonGroup
common block items = record { block = block; items = items }

abbrev group : List ListItem → List DataValue → DataGroup
group places values = record { places = places; values = values }

abbrev once : Expr → DataValue
once e = record { count = None; value = e }

abbrev twice : Expr → DataValue
twice e = record { count = Some (int 2); value = e }

abbrev looped : List ListItem → ListItem
looped items = item.Loop items loop_1_to_2

abbrev standard : ControlValue → List Control
standard format = control word.Unit value.Star ∷ control word.Format format ∷ []

abbrev unit_1 : Control
unit_1 = control word.Unit (value.Value (int 1))

abbrev constant : List ℕ → ControlValue
constant text = value.Value (expr.Text text)

-- Assignments, branches, loops and calls.
unfoldable pub flow_rows : List Row
flow_rows =
    -- I=1
    spelled (i ∷ equals ∷ one ∷ [])
    (body.Assign name_i (int 1))
    -- A(1)=2
    ∷ spelled (a ∷ opened ∷ one ∷ closed ∷ equals ∷ two ∷ [])
    (body.Assign (expr.Apply (codes "a") (int 1 ∷ [])) (int 2))
    -- A()=2
    ∷ spelled (a ∷ opened ∷ closed ∷ equals ∷ two ∷ [])
    (body.Assign (expr.Apply (codes "a") []) (int 2))
    -- A= is no statement
    ∷ none (a ∷ equals ∷ [])
    -- ASSIGN 10 TO I
    ∷ spelled (Word kind.Assign ∷ ten ∷ To ∷ i ∷ [])
    (body.AssignLabel 10 (codes "i"))
    -- GO TO 10
    ∷ spelled (Word kind.Goto ∷ ten ∷ [])
    (body.Goto 10)
    -- GO TO 100000 is no statement
    ∷ none (Word kind.Goto ∷ too_long ∷ [])
    -- GO TO (10,1),I
    ∷ spelled (Word kind.Goto ∷ opened ∷ ten ∷ comma ∷ one ∷ closed ∷ comma ∷ i ∷ [])
    (body.GotoList (10 ∷ 1 ∷ []) name_i)
    -- GO TO I(10)
    ∷ spelled (Word kind.Goto ∷ i ∷ opened ∷ ten ∷ closed ∷ [])
    (body.GotoName (codes "i") (10 ∷ []))
    -- IF (A)10,1,2
    ∷ spelled (Word kind.If ∷ opened ∷ a ∷ closed ∷ ten ∷ comma ∷ one ∷ comma ∷ two ∷ [])
    (body.IfSign name_a 10 1 2)
    -- IF (A) THEN
    ∷ spelled (Word kind.If ∷ opened ∷ a ∷ closed ∷ Then ∷ [])
    (body.IfThen name_a)
    -- IF (A) GO TO 10
    ∷ spelled (Word kind.If ∷ opened ∷ a ∷ closed ∷ Word kind.Goto ∷ ten ∷ [])
    (body.IfOne name_a (body.Goto 10))
    -- IF (A) IF (B)10,1,2
    ∷ spelled (Word kind.If ∷ opened ∷ a ∷ closed ∷ Word kind.If ∷ opened ∷ b ∷ closed ∷ ten ∷ comma ∷ one ∷ comma ∷ two ∷ [])
    (body.IfOne name_a (body.IfSign name_b 10 1 2))
    -- IF (A)B=1
    ∷ spelled (Word kind.If ∷ opened ∷ a ∷ closed ∷ b ∷ equals ∷ one ∷ [])
    (body.IfOne name_a (body.Assign name_b (int 1)))
    -- IF (A) IF (B) GO TO 10 is no statement
    ∷ none (Word kind.If ∷ opened ∷ a ∷ closed ∷ Word kind.If ∷ opened ∷ b ∷ closed ∷ Word kind.Goto ∷ ten ∷ [])
    -- IF (A) DO 10I=1,2 is no statement
    ∷ none (Word kind.If ∷ opened ∷ a ∷ closed ∷ Word kind.Do ∷ ten ∷ i ∷ equals ∷ one ∷ comma ∷ two ∷ [])
    -- IF (A) END is no statement
    ∷ none (Word kind.If ∷ opened ∷ a ∷ closed ∷ Word kind.End ∷ [])
    -- ELSE IF (A) THEN
    ∷ spelled (Word kind.ElseIf ∷ opened ∷ a ∷ closed ∷ Then ∷ [])
    (body.ElseIf name_a)
    -- ELSE
    ∷ spelled (Word kind.Else ∷ [])
    (body.Else)
    -- ELSE 1 is no statement
    ∷ none (Word kind.Else ∷ one ∷ [])
    -- DO 10,I=1,2
    ∷ spelled (Word kind.Do ∷ ten ∷ comma ∷ i ∷ equals ∷ one ∷ comma ∷ two ∷ [])
    (body.Do (Some 10) loop_1_to_2)
    -- DO I=1,2
    ∷ spelled (Word kind.Do ∷ i ∷ equals ∷ one ∷ comma ∷ two ∷ [])
    (body.Do None loop_1_to_2)
    -- DO ,I=1,2 is no statement
    ∷ none (Word kind.Do ∷ comma ∷ i ∷ equals ∷ one ∷ comma ∷ two ∷ [])
    -- DO 10, WHILE (A)
    ∷ spelled (Word kind.DoWhile ∷ ten ∷ comma ∷ opened ∷ a ∷ closed ∷ [])
    (body.DoWhile (Some 10) name_a)
    -- DO WHILE (A)
    ∷ spelled (Word kind.DoWhile ∷ opened ∷ a ∷ closed ∷ [])
    (body.DoWhile None name_a)
    -- CALL A
    ∷ spelled (Word kind.Call ∷ a ∷ [])
    (body.Call (codes "a") [])
    -- CALL A()
    ∷ spelled (Word kind.Call ∷ a ∷ opened ∷ closed ∷ [])
    (body.Call (codes "a") [])
    -- CALL A(*10,B)
    ∷ spelled (Word kind.Call ∷ a ∷ opened ∷ star ∷ ten ∷ comma ∷ b ∷ closed ∷ [])
    (body.Call (codes "a") (expr.AltReturn 10 ∷ name_b ∷ []))
    -- RETURN
    ∷ spelled (Word kind.Return ∷ [])
    (body.Return None)
    -- STOP 10
    ∷ spelled (Word kind.Stop ∷ ten ∷ [])
    (body.Stop (codes "10"))
    -- STOP 100000 is no statement
    ∷ none (Word kind.Stop ∷ too_long ∷ [])
    -- END
    ∷ spelled (Word kind.End ∷ [])
    (body.End)
    ∷ []

-- Specification statements, DATA and headers.
unfoldable pub declaration_rows : List Row
declaration_rows =
    -- INTEGER *4A(1:2),B(*)
    spelled (Word kind.Integer ∷ star ∷ four ∷ a ∷ opened ∷ one ∷ colon ∷ two ∷ closed ∷ comma ∷ b ∷ opened ∷ star ∷ closed ∷ [])
    (body.Declare type (declarator (codes "a") (record { lower = Some (int 1); upper = upper.Value (int 2) } ∷ []) None
    ∷ declarator (codes "b") (record { lower = None; upper = upper.Star } ∷ []) None ∷ []))
    -- INTEGER A*2 is no statement
    ∷ none (Word kind.Integer ∷ a ∷ star ∷ two ∷ [])
    -- CHARACTER *2,A*(*),B
    ∷ spelled (Word kind.Character ∷ star ∷ two ∷ comma ∷ a ∷ star ∷ opened ∷ star ∷ closed ∷ comma ∷ b ∷ [])
    (body.Declare (record { basic = basic.Character; length = Some (length'.Value (int 2)) })
    (declarator (codes "a") [] (Some length'.Star) ∷ declarator (codes "b") [] None ∷ []))
    -- CHARACTER ,A is no statement
    ∷ none (Word kind.Character ∷ comma ∷ a ∷ [])
    -- INTEGER FUNCTION A(B)
    ∷ spelled (Word kind.Integer ∷ Word kind.Function ∷ a ∷ opened ∷ b ∷ closed ∷ [])
    (body.Header (unit.Function type) (Some (codes "a")) (dummy.Named (codes "b") ∷ []))
    -- FUNCTION A is no statement
    ∷ none (Word kind.Function ∷ a ∷ [])
    -- SUBROUTINE A(B,*)
    ∷ spelled (Word kind.Subroutine ∷ a ∷ opened ∷ b ∷ comma ∷ star ∷ closed ∷ [])
    (body.Header unit.Subroutine (Some (codes "a")) (dummy.Named (codes "b") ∷ dummy.AlternateReturn ∷ []))
    -- DIMENSION A(1,2)
    ∷ spelled (Word kind.Dimension ∷ a ∷ opened ∷ one ∷ comma ∷ two ∷ closed ∷ [])
    (body.Dimension (array (codes "a") (up_to (int 1) ∷ up_to (int 2) ∷ []) ∷ []))
    -- COMMON A,/B/I//A
    ∷ spelled (Word kind.Common ∷ a ∷ comma ∷ slash ∷ b ∷ slash ∷ i ∷ Infix operator.Concatenate ∷ a ∷ [])
    (body.Common (common None (array (codes "a") [] ∷ []) ∷ common (Some (codes "b")) (array (codes "i") [] ∷ [])
    ∷ common None (array (codes "a") [] ∷ []) ∷ []))
    -- COMMON /A/I,B(2)
    ∷ spelled (Word kind.Common ∷ slash ∷ a ∷ slash ∷ i ∷ comma ∷ b ∷ opened ∷ two ∷ closed ∷ [])
    (body.Common (common (Some (codes "a")) (array (codes "i") [] ∷ array (codes "b") (up_to (int 2) ∷ []) ∷ []) ∷ []))
    -- EQUIVALENCE (A,B)
    ∷ spelled (Word kind.Equivalence ∷ opened ∷ a ∷ comma ∷ b ∷ closed ∷ [])
    (body.Equivalence (record { places = name_a ∷ name_b ∷ [] } ∷ []))
    -- EQUIVALENCE (A) is no statement
    ∷ none (Word kind.Equivalence ∷ opened ∷ a ∷ closed ∷ [])
    -- IMPLICIT NONE
    ∷ spelled (Word kind.Implicit ∷ Name (codes "none") ∷ [])
    (body.ImplicitNone)
    -- IMPLICIT INTEGER (A-B,I)
    ∷ spelled (Word kind.Implicit ∷ Word kind.Integer ∷ opened ∷ a ∷ minus ∷ b ∷ comma ∷ i ∷ closed ∷ [])
    (body.Implicit (record { spec = type; letters = record { first = 97; last = 98 } ∷ record { first = 105; last = 105 } ∷ [] } ∷ []))
    -- IMPLICIT INTEGER (B-A) is no statement
    ∷ none (Word kind.Implicit ∷ Word kind.Integer ∷ opened ∷ b ∷ minus ∷ a ∷ closed ∷ [])
    -- PARAMETER (A=1)
    ∷ spelled (Word kind.Parameter ∷ opened ∷ a ∷ equals ∷ one ∷ closed ∷ [])
    (body.Parameter (record { name = codes "a"; value = int 1 } ∷ []))
    -- SAVE /A/,B
    ∷ spelled (Word kind.Save ∷ slash ∷ a ∷ slash ∷ comma ∷ b ∷ [])
    (body.Save (saved.Block (codes "a") ∷ saved.Named (codes "b") ∷ []))
    -- SAVE
    ∷ spelled (Word kind.Save ∷ [])
    (body.Save [])
    -- DATA A/2*-1/,(B(I),I=1,2)/.TRUE./
    ∷ spelled (Word kind.Init ∷ a ∷ slash ∷ two ∷ star ∷ minus ∷ one ∷ slash ∷ comma ∷ opened ∷ b ∷ opened ∷ i ∷ closed ∷ comma ∷ i
    ∷ equals ∷ one ∷ comma ∷ two ∷ closed ∷ slash ∷ Truth true ∷ slash ∷ [])
    (body.Init (group (item.Item name_a ∷ []) (twice (expr.Minus (int 1)) ∷ [])
    ∷ group (looped (item.Item (expr.Apply (codes "b") (name_i ∷ [])) ∷ []) ∷ []) (once (expr.Logical true) ∷ []) ∷ []))
    -- DATA A,B(1)/1,2/I/A/
    ∷ spelled (Word kind.Init ∷ a ∷ comma ∷ b ∷ opened ∷ one ∷ closed ∷ slash ∷ one ∷ comma ∷ two ∷ slash ∷ i ∷ slash ∷ a ∷ slash ∷ [])
    (body.Init (group (item.Item name_a ∷ item.Item (expr.Apply (codes "b") (int 1 ∷ [])) ∷ []) (once (int 1) ∷ once (int 2) ∷ [])
    ∷ group (item.Item name_i ∷ []) (once name_a ∷ []) ∷ []))
    ∷ []

-- Transfers and statements on units.
unfoldable pub transfer_rows : List Row
transfer_rows =
    -- PRINT *,(A(I),I=1,2)
    spelled (Word kind.Print ∷ star ∷ comma ∷ opened ∷ a ∷ opened ∷ i ∷ closed ∷ comma ∷ i ∷ equals ∷ one ∷ comma ∷ two ∷ closed ∷ [])
    (body.Transfer way.Write (standard value.Star) (looped (item.Item (expr.Apply (codes "a") (name_i ∷ [])) ∷ []) ∷ []))
    -- PRINT *,(A),((B,I=1,2),A,I=1,2)
    ∷ spelled (Word kind.Print ∷ star ∷ comma ∷ opened ∷ a ∷ closed ∷ comma ∷ opened ∷ opened ∷ b ∷ comma ∷ i ∷ equals ∷ one ∷ comma
    ∷ two ∷ closed ∷ comma ∷ a ∷ comma ∷ i ∷ equals ∷ one ∷ comma ∷ two ∷ closed ∷ [])
    (body.Transfer way.Write (standard value.Star)
    (item.Item (expr.Paren name_a) ∷ looped (looped (item.Item name_b ∷ []) ∷ item.Item name_a ∷ []) ∷ []))
    -- PRINT 10
    ∷ spelled (Word kind.Print ∷ ten ∷ [])
    (body.Transfer way.Write (standard (value.Label 10)) [])
    -- PRINT (A),B
    ∷ spelled (Word kind.Print ∷ opened ∷ a ∷ closed ∷ comma ∷ b ∷ [])
    (body.Transfer way.Write (standard (value.Value (expr.Paren name_a))) (item.Item name_b ∷ []))
    -- PRINT 100000 is no statement
    ∷ none (Word kind.Print ∷ too_long ∷ [])
    -- READ (1,10,END=2)A
    ∷ spelled (Word kind.Read ∷ opened ∷ one ∷ comma ∷ ten ∷ comma ∷ Name (codes "end") ∷ equals ∷ two ∷ closed ∷ a ∷ [])
    (body.Transfer way.Read (unit_1 ∷ control word.Format (value.Label 10) ∷ control word.OnEnd (value.Label 2) ∷ [])
    (item.Item name_a ∷ []))
    -- READ (FMT=*,UNIT=*)A,B
    ∷ spelled (Word kind.Read ∷ opened ∷ Name (codes "fmt") ∷ equals ∷ star ∷ comma ∷ Name (codes "unit") ∷ equals ∷ star ∷ closed ∷ a
    ∷ comma ∷ b ∷ [])
    (body.Transfer way.Read (control word.Format value.Star ∷ control word.Unit value.Star ∷ [])
    (item.Item name_a ∷ item.Item name_b ∷ []))
    -- READ (1)A is no statement
    ∷ none (Word kind.Read ∷ opened ∷ one ∷ closed ∷ a ∷ [])
    -- READ (UNIT=1,*)A is no statement
    ∷ none (Word kind.Read ∷ opened ∷ Name (codes "unit") ∷ equals ∷ one ∷ comma ∷ star ∷ closed ∷ a ∷ [])
    -- WRITE (*,*,END=10) is no statement
    ∷ none (Word kind.Write ∷ opened ∷ star ∷ comma ∷ star ∷ comma ∷ Name (codes "end") ∷ equals ∷ ten ∷ closed ∷ [])
    -- READ (1,*,UNIT=2)A is no statement
    ∷ none (Word kind.Read ∷ opened ∷ one ∷ comma ∷ star ∷ comma ∷ Name (codes "unit") ∷ equals ∷ two ∷ closed ∷ a ∷ [])
    -- READ '(i4)',A
    ∷ spelled (Word kind.Read ∷ Quoted (codes "(i4)") ∷ comma ∷ a ∷ [])
    (body.Transfer way.Read (standard (constant (codes "(i4)"))) (item.Item name_a ∷ []))
    -- OPEN (1,STATUS='OLD',IOSTAT=I)
    ∷ spelled (Word kind.OpenUnit ∷ opened ∷ one ∷ comma ∷ Name (codes "status") ∷ equals ∷ Quoted (codes "OLD") ∷ comma
    ∷ Name (codes "iostat") ∷ equals ∷ i ∷ closed ∷ [])
    (body.Auxiliary auxiliary.OpenUnit (unit_1 ∷ control word.FileStatus (constant (codes "OLD")) ∷ control word.Status
    (value.Value name_i) ∷ []))
    -- OPEN (1,STATUS='KEEP') is no statement
    ∷ none (Word kind.OpenUnit ∷ opened ∷ one ∷ comma ∷ Name (codes "status") ∷ equals ∷ Quoted (codes "KEEP") ∷ closed ∷ [])
    -- OPEN (*) is no statement
    ∷ none (Word kind.OpenUnit ∷ opened ∷ star ∷ closed ∷ [])
    -- CLOSE (1,STATUS='KEEP')
    ∷ spelled (Word kind.Close ∷ opened ∷ one ∷ comma ∷ Name (codes "status") ∷ equals ∷ Quoted (codes "KEEP") ∷ closed ∷ [])
    (body.Auxiliary auxiliary.CloseUnit (unit_1 ∷ control word.FileStatus (constant (codes "KEEP")) ∷ []))
    -- REWIND 1
    ∷ spelled (Word kind.Rewind ∷ one ∷ [])
    (body.Auxiliary auxiliary.Rewind (unit_1 ∷ []))
    -- REWIND (1)
    ∷ spelled (Word kind.Rewind ∷ opened ∷ one ∷ closed ∷ [])
    (body.Auxiliary auxiliary.Rewind (unit_1 ∷ []))
    -- REWIND (1)+1 is no statement
    ∷ none (Word kind.Rewind ∷ opened ∷ one ∷ closed ∷ Infix operator.Plus ∷ one ∷ [])
    ∷ []
