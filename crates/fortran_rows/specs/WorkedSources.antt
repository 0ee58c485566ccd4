-- Small programs as trees, each for one worked run.
use Rattle.std.specs.Prelude.{map, true, ℕ, pos, List, [], ◌∷◌, codes, Some, None}
use Rattle.fortran_checks.specs.f_tree.declared.expressions.Expr.{Expr}
use Rattle.fortran_checks.specs.f_tree.declared.expressions.Expr as expr
use Rattle.fortran_checks.specs.f_tree.declared.expressions.BinaryOp.TheVariants as op
use Rattle.fortran_checks.specs.f_tree.declared.statements.Body.{Body}
use Rattle.fortran_checks.specs.f_tree.declared.statements.Body as body
use Rattle.fortran_checks.specs.f_tree.declared.statements.ListItem as item
use Rattle.fortran_checks.specs.f_tree.declared.statements.ListItem.{ListItem}
use Rattle.fortran_checks.specs.f_tree.declared.statements.ControlValue.TheVariants as value
use Rattle.fortran_checks.specs.f_tree.declared.statements.ControlWord.TheVariants as word
use Rattle.fortran_checks.specs.f_tree.declared.statements.Direction.TheVariants as way
use Rattle.fortran_checks.specs.f_tree.declared.statements.UnitKind.{UnitKind}
use Rattle.fortran_checks.specs.f_tree.declared.statements.UnitKind.TheVariants as kind
use Rattle.fortran_checks.specs.f_tree.declared.statements.Stmt.{Stmt}
use Rattle.fortran_checks.specs.f_tree.declared.units.Unit.{Unit as WrittenUnit}
use Rattle.fortran_checks.specs.f_tree.declared.units.FileSet.{FileSet}
use Rattle.fortran_checks.specs.f_tree.declared.statements.DummyArgument.TheVariants as dummy
use Rattle.fortran_checks.specs.f_tree.declared.statements.TypeSpec.{TypeSpec}
use Rattle.fortran_checks.specs.f_tree.declared.statements.Declarator.{Declarator}
use Rattle.fortran_checks.specs.f_tree.declared.statements.Dimension.{Dimension}
use Rattle.fortran_checks.specs.f_tree.declared.statements.UpperBound.TheVariants as upper
use Rattle.fortran_checks.specs.f_tree.declared.statements.LoopControl.{LoopControl}
use Rattle.fortran_checks.specs.f_tree.declared.statements.Control.{Control}
use Rattle.fortran_checks.specs.f_tree.declared.statements.AuxiliaryKind.TheVariants as auxiliary
use Rattle.fortran_checks.specs.f_tree.declared.statements.ArrayDeclarator.{ArrayDeclarator}
use Rattle.fortran_checks.specs.f_tree.declared.statements.LengthSpec.TheVariants as length'
use Rattle.fortran_checks.specs.f_tree.declared.names.Basic.TheVariants.{Integer, Logical, Character}
use Rattle.fortran_checks.specs.f_tree.Values.{Bytes}
use Rattle.fortran_checks.specs.f_tree.Setting.{Setting}

abbrev pub on_card : ℕ → Body → Stmt
on_card n b = record { label = None; file = 0; card = n; body = b }

abbrev pub labelled : ℕ → ℕ → Body → Stmt
labelled label n b = record { label = Some label; file = 0; card = n; body = b }

abbrev pub items : List Expr → List ListItem
items [] = []
items (e ∷ es) = item.Item e ∷ items es

-- PRINT *, and a list
abbrev pub print : List Expr → Body
print es = body.Transfer way.Write (record { word = word.Unit; value = value.Star } ∷ record { word = word.Format; value = value.Star } ∷ []) (items es)

abbrev pub main_program : List Stmt → WrittenUnit
main_program statements = record { file = 0; card = 1; kind = kind.Main; name = None; dummies = []; statements = statements }

abbrev pub one_file : List WrittenUnit → FileSet
one_file units = record { files = record { units = units } ∷ [] }

abbrev pub unit_of : UnitKind → Bytes → List Bytes → List Stmt → WrittenUnit
unit_of kind x dummies statements = record {
  file = 0;
  card = 1;
  kind = kind;
  name = Some x;
  dummies = map dummy.Named dummies;
  statements = statements;
}

abbrev pub integer_type : TypeSpec
integer_type = record { basic = Integer; length = None }

abbrev pub logical_type : TypeSpec
logical_type = record { basic = Logical; length = None }

abbrev pub integer_function : Bytes → List Bytes → List Stmt → WrittenUnit
integer_function = unit_of (kind.Function integer_type)

abbrev pub logical_function : Bytes → List Bytes → List Stmt → WrittenUnit
logical_function = unit_of (kind.Function logical_type)

abbrev pub subroutine : Bytes → List Bytes → List Stmt → WrittenUnit
subroutine = unit_of kind.Subroutine

abbrev pub num : ℕ → Expr
num n = expr.Int (pos n)

-- a dimension from 1 to n
abbrev pub up_to : ℕ → Dimension
up_to n = record { lower = None; upper = upper.Value (num n) }

abbrev pub scalar : Bytes → Declarator
scalar x = record { name = x; dimensions = []; length = None }

abbrev pub array : Bytes → List Dimension → Declarator
array x dimensions = record { name = x; dimensions = dimensions; length = None }

-- a loop with the step 1
abbrev pub from_to : Bytes → Expr → Expr → LoopControl
from_to x first limit = record { variable = x; first = first; limit = limit; step = None }

abbrev pub I : Bytes
I = codes "i"

abbrev pub J : Bytes
J = codes "j"

abbrev pub K : Bytes
K = codes "k"

abbrev pub M : Bytes
M = codes "m"

abbrev pub N : Bytes
N = codes "n"

abbrev pub plus : Expr → Expr → Expr
plus = expr.Binary op.Plus

abbrev pub minus : Expr → Expr → Expr
minus = expr.Binary op.Minus

abbrev pub times : Expr → Expr → Expr
times = expr.Binary op.Times

-- `I=2`, `PRINT *,I+3`, `END`
unfoldable pub sum_printed : FileSet
sum_printed = one_file (main_program (
    on_card 1 (body.Assign (expr.Name (codes "i")) (expr.Int (pos 2))) ∷
    on_card 2 (print (expr.Binary op.Plus (expr.Name (codes "i")) (expr.Int (pos 3)) ∷ [])) ∷
    on_card 3 body.End ∷ []) ∷ [])

-- `IMPLICIT INTEGER (A-Z)`, `DO 10 I = 1 5`, `PRINT *, DO10I`, `END`: the second card is an assignment
unfoldable pub loop_look_alike : FileSet
loop_look_alike = one_file (main_program (
    on_card 1 (body.Implicit (record { spec = integer_type; letters = record { first = 97; last = 122 } ∷ [] } ∷ [])) ∷
    on_card 2 (body.Assign (expr.Name (codes "do10i")) (num 15)) ∷
    on_card 3 (print (expr.Name (codes "do10i") ∷ [])) ∷
    on_card 4 body.End ∷ []) ∷ [])

-- `DO 10 I=5,1`, label 10 `PRINT *,0`, `PRINT *,I`, `END`
unfoldable pub loop_that_never_turns : FileSet
loop_that_never_turns = one_file (main_program (
    on_card 1 (body.Do (Some 10) (from_to I (num 5) (num 1))) ∷
    labelled 10 2 (print (num 0 ∷ [])) ∷
    on_card 3 (print (expr.Name I ∷ [])) ∷
    on_card 4 body.End ∷ []) ∷ [])

-- `DO 10 I=2147483646,2147483647`, label 10 `PRINT *,I`, `END`
unfoldable pub loop_to_the_last_integer : FileSet
loop_to_the_last_integer = one_file (main_program (
    on_card 1 (body.Do (Some 10) (from_to I (num 2147483646) (num 2147483647))) ∷
    labelled 10 2 (print (expr.Name I ∷ [])) ∷
    on_card 3 body.End ∷ []) ∷ [])

-- `I=-2147483647-1`, `PRINT *,I`, `END`
unfoldable pub least_integer : FileSet
least_integer = one_file (main_program (
    on_card 1 (body.Assign (expr.Name I) (minus (expr.Minus (num 2147483647)) (num 1))) ∷
    on_card 2 (print (expr.Name I ∷ [])) ∷
    on_card 3 body.End ∷ []) ∷ [])

-- `I=-2147483647-1`, `PRINT *,SIGN(I,-1)`, `END`; and with `SIGN(I,1)`
unfoldable pub sign_of_the_least : Expr → FileSet
sign_of_the_least sign = one_file (main_program (
    on_card 1 (body.Assign (expr.Name I) (minus (expr.Minus (num 2147483647)) (num 1))) ∷
    on_card 2 (print (expr.Apply (codes "sign") (expr.Name I ∷ sign ∷ []) ∷ [])) ∷
    on_card 3 body.End ∷ []) ∷ [])

-- `K=1`, `I=K+NF(K)`, `PRINT *,I,K`, `END`, `INTEGER FUNCTION NF(M)`, `M=10`, `NF=5`, `END`
unfoldable pub operands_from_the_left : FileSet
operands_from_the_left = one_file (
    main_program (
    on_card 1 (body.Assign (expr.Name K) (num 1)) ∷
    on_card 2 (body.Assign (expr.Name I) (plus (expr.Name K) (expr.Apply (codes "nf") (expr.Name K ∷ [])))) ∷
    on_card 3 (print (expr.Name I ∷ expr.Name K ∷ [])) ∷
    on_card 4 body.End ∷ []) ∷
    integer_function (codes "nf") (M ∷ []) (
    on_card 6 (body.Assign (expr.Name M) (num 10)) ∷
    on_card 7 (body.Assign (expr.Name (codes "nf")) (num 5)) ∷
    on_card 8 body.End ∷ []) ∷ [])

-- `LOGICAL LF`, `N=0`, `IF (N.GT.0 .AND. LF(N)) PRINT *,1`, `PRINT *,2`, `END`,
-- `LOGICAL FUNCTION LF(N)`, `PRINT *,3`, `LF=.TRUE.`, `END`
unfoldable pub decided_and : FileSet
decided_and = one_file (
    main_program (
    on_card 1 (body.Declare logical_type (scalar (codes "lf") ∷ [])) ∷
    on_card 2 (body.Assign (expr.Name N) (num 0)) ∷
    on_card 3 (body.IfOne (expr.Binary op.And (expr.Binary op.Greater (expr.Name N) (num 0)) (expr.Apply (codes "lf") (expr.Name N ∷ []))) (print (num 1 ∷ []))) ∷
    on_card 4 (print (num 2 ∷ [])) ∷
    on_card 5 body.End ∷ []) ∷
    logical_function (codes "lf") (N ∷ []) (
    on_card 7 (print (num 3 ∷ [])) ∷
    on_card 8 (body.Assign (expr.Name (codes "lf")) (expr.Logical true)) ∷
    on_card 9 body.End ∷ []) ∷ [])

-- `INTEGER A(4)`, `DO 10 I=1,4`, label 10 `A(I)=I`, `CALL S(A(2),A)`, `PRINT *,A(1),A(2),A(3),A(4)`, `END`,
-- `SUBROUTINE S(P,Q)`, `INTEGER P(3),Q(4)`, `DO 20 J=1,3`, label 20 `P(J)=Q(J)*10`, `END`
unfoldable pub dummies_that_overlap : FileSet
dummies_that_overlap =
    let a : Expr → Expr = λ e. expr.Apply (codes "a") (e ∷ []) in
    one_file (
    main_program (
    on_card 1 (body.Declare integer_type (array (codes "a") (up_to 4 ∷ []) ∷ [])) ∷
    on_card 2 (body.Do (Some 10) (from_to I (num 1) (num 4))) ∷
    labelled 10 3 (body.Assign (a (expr.Name I)) (expr.Name I)) ∷
    on_card 4 (body.Call (codes "s") (a (num 2) ∷ expr.Name (codes "a") ∷ [])) ∷
    on_card 5 (print (a (num 1) ∷ a (num 2) ∷ a (num 3) ∷ a (num 4) ∷ [])) ∷
    on_card 6 body.End ∷ []) ∷
    subroutine (codes "s") (codes "p" ∷ codes "q" ∷ []) (
    on_card 8 (body.Declare integer_type (array (codes "p") (up_to 3 ∷ []) ∷ array (codes "q") (up_to 4 ∷ []) ∷ [])) ∷
    on_card 9 (body.Do (Some 20) (from_to J (num 1) (num 3))) ∷
    labelled 20 10 (body.Assign (expr.Apply (codes "p") (expr.Name J ∷ [])) (times (expr.Apply (codes "q") (expr.Name J ∷ [])) (num 10))) ∷
    on_card 11 body.End ∷ []) ∷ [])

-- `PRINT *,NA(3),NB(4)`, `END`, `INTEGER FUNCTION NA(K)`, `NA=K+1`, `RETURN`, `ENTRY NB(K)`, `NA=K*2`, `END`
unfoldable pub entries_share_a_result : FileSet
entries_share_a_result = one_file (
    main_program (
    on_card 1 (print (expr.Apply (codes "na") (num 3 ∷ []) ∷ expr.Apply (codes "nb") (num 4 ∷ []) ∷ [])) ∷
    on_card 2 body.End ∷ []) ∷
    integer_function (codes "na") (K ∷ []) (
    on_card 4 (body.Assign (expr.Name (codes "na")) (plus (expr.Name K) (num 1))) ∷
    on_card 5 (body.Return None) ∷
    on_card 6 (body.Entry (codes "nb") (dummy.Named K ∷ [])) ∷
    on_card 7 (body.Assign (expr.Name (codes "na")) (times (expr.Name K) (num 2))) ∷
    on_card 8 body.End ∷ []) ∷ [])

-- `DO 20 I=0,3`, `CALL T(I,*10,*20)`, `PRINT *,I`, `GO TO 20`, label 10 `PRINT *,10`, label 20 `CONTINUE`, `END`,
-- `SUBROUTINE T(K,*,*)`, `RETURN K`, `END`
unfoldable pub alternate_returns : FileSet
alternate_returns = one_file (
    main_program (
    on_card 1 (body.Do (Some 20) (from_to I (num 0) (num 3))) ∷
    on_card 2 (body.Call (codes "t") (expr.Name I ∷ expr.AltReturn 10 ∷ expr.AltReturn 20 ∷ [])) ∷
    on_card 3 (print (expr.Name I ∷ [])) ∷
    on_card 4 (body.Goto 20) ∷
    labelled 10 5 (print (num 10 ∷ [])) ∷
    labelled 20 6 body.Continue ∷
    on_card 7 body.End ∷ []) ∷
    record {
      file = 0;
      card = 8;
      kind = kind.Subroutine;
      name = Some (codes "t");
      dummies = dummy.Named K ∷ dummy.AlternateReturn ∷ dummy.AlternateReturn ∷ [];
      statements = on_card 9 (body.Return (Some (expr.Name K))) ∷ on_card 10 body.End ∷ [];
    } ∷ [])

-- a main program of one assignment, of the value to I
unfoldable pub assigned : Expr → FileSet
assigned e = one_file (main_program (on_card 1 (body.Assign (expr.Name I) e) ∷ on_card 2 body.End ∷ []) ∷ [])

-- `INTEGER A(2)`, `A(3)=1`, `END`
unfoldable pub element_past_the_last : FileSet
element_past_the_last = one_file (main_program (
    on_card 1 (body.Declare integer_type (array (codes "a") (up_to 2 ∷ []) ∷ [])) ∷
    on_card 2 (body.Assign (expr.Apply (codes "a") (num 3 ∷ [])) (num 1)) ∷
    on_card 3 body.End ∷ []) ∷ [])

-- `DO 10 I=1,3,0`, label 10 `CONTINUE`, `END`
unfoldable pub step_of_zero : FileSet
step_of_zero = one_file (main_program (
    on_card 1 (body.Do (Some 10) (record { variable = I; first = num 1; limit = num 3; step = Some (num 0) })) ∷
    labelled 10 2 body.Continue ∷
    on_card 3 body.End ∷ []) ∷ [])

-- `DO 10 I=1,3`, label 10 `I=I+1`, `END`
unfoldable pub variable_changed_in_its_loop : FileSet
variable_changed_in_its_loop = one_file (main_program (
    on_card 1 (body.Do (Some 10) (from_to I (num 1) (num 3))) ∷
    labelled 10 2 (body.Assign (expr.Name I) (plus (expr.Name I) (num 1))) ∷
    on_card 3 body.End ∷ []) ∷ [])

-- a main program that calls S, and S
unfoldable pub calling : List Expr → List Bytes → List Stmt → FileSet
calling actuals dummies statements = one_file (
    main_program (on_card 1 (body.Call (codes "s") actuals) ∷ on_card 2 body.End ∷ []) ∷
    subroutine (codes "s") dummies statements ∷ [])

-- `PRINT *,NF(1)`, `END`, and the function
unfoldable pub printing_a_function : List Stmt → FileSet
printing_a_function statements = one_file (
    main_program (on_card 1 (print (expr.Apply (codes "nf") (num 1 ∷ []) ∷ [])) ∷ on_card 2 body.End ∷ []) ∷
    integer_function (codes "nf") (K ∷ []) statements ∷ [])

-- `SUBROUTINE T(N)`, `N=2`, `ENTRY S`, `N=1`, `END`, and a main program that calls S
unfoldable pub dummy_of_another_entry : FileSet
dummy_of_another_entry = one_file (
    main_program (on_card 1 (body.Call (codes "s") []) ∷ on_card 2 body.End ∷ []) ∷
    subroutine (codes "t") (N ∷ []) (
    on_card 4 (body.Assign (expr.Name N) (num 2)) ∷
    on_card 5 (body.Entry (codes "s") []) ∷
    on_card 6 (body.Assign (expr.Name N) (num 1)) ∷
    on_card 7 body.End ∷ []) ∷ [])

-- `ASSIGN 10 TO I`, `GO TO I` with a list, label 10 `PRINT *,1`, label 20 `END`
unfoldable pub assigned_branch : List ℕ → FileSet
assigned_branch labels = one_file (main_program (
    on_card 1 (body.AssignLabel 10 I) ∷
    on_card 2 (body.GotoName I labels) ∷
    on_card 3 (body.Goto 20) ∷
    labelled 10 4 (print (num 1 ∷ [])) ∷
    labelled 20 5 body.End ∷ []) ∷ [])

-- `I=n`, `IF (I.EQ.1) THEN`, `PRINT *,1`, `ELSE IF (I.EQ.2) THEN`, `PRINT *,2`, `ELSE`, `PRINT *,3`, `END IF`, `PRINT *,4`, `END`
unfoldable pub arms : ℕ → FileSet
arms n =
    let is : ℕ → Expr = λ k. expr.Binary op.Equal (expr.Name I) (num k) in
    one_file (main_program (
    on_card 1 (body.Assign (expr.Name I) (num n)) ∷
    on_card 2 (body.IfThen (is 1)) ∷
    on_card 3 (print (num 1 ∷ [])) ∷
    on_card 4 (body.ElseIf (is 2)) ∷
    on_card 5 (print (num 2 ∷ [])) ∷
    on_card 6 body.Else ∷
    on_card 7 (print (num 3 ∷ [])) ∷
    on_card 8 body.EndIf ∷
    on_card 9 (print (num 4 ∷ [])) ∷
    on_card 10 body.End ∷ []) ∷ [])

-- two loops that share their terminal statement: `DO 10 I=1,2`, `DO 10 J=I,1`, label 10 `PRINT *,I,J`, `PRINT *,I,J`, `END`
unfoldable pub shared_terminal : FileSet
shared_terminal = one_file (main_program (
    on_card 1 (body.Do (Some 10) (from_to I (num 1) (num 2))) ∷
    on_card 2 (body.Do (Some 10) (from_to J (expr.Name I) (num 1))) ∷
    labelled 10 3 (print (expr.Name I ∷ expr.Name J ∷ [])) ∷
    on_card 4 (print (expr.Name I ∷ expr.Name J ∷ [])) ∷
    on_card 5 body.End ∷ []) ∷ [])

-- `PRINT *,((I*J,J=1,2),I,I=1,2)`, `END`
unfoldable pub implied_loops : FileSet
implied_loops = one_file (main_program (
    on_card 1 (body.Transfer way.Write
    (record { word = word.Unit; value = value.Star } ∷ record { word = word.Format; value = value.Star } ∷ [])
    (item.Loop
    (item.Loop (item.Item (times (expr.Name I) (expr.Name J)) ∷ []) (from_to J (num 1) (num 2)) ∷ item.Item (expr.Name I) ∷ [])
    (from_to I (num 1) (num 2)) ∷ [])) ∷
    on_card 2 body.End ∷ []) ∷ [])

-- `I=1/0`, `END`
unfoldable pub division_by_zero : FileSet
division_by_zero = assigned (expr.Binary op.Divide (num 1) (num 0))

-- `I=J`, `END`
unfoldable pub variable_without_value : FileSet
variable_without_value = assigned (expr.Name J)

-- `CALL S`, `END`, `SUBROUTINE S`, `CALL S`, `END`
unfoldable pub recursion : FileSet
recursion = calling [] [] (on_card 4 (body.Call (codes "s") []) ∷ on_card 5 body.End ∷ [])

-- `CALL S(1)`, `END`, `SUBROUTINE S(N)`, `N=2`, `END`
unfoldable pub constant_defined : FileSet
constant_defined = calling (num 1 ∷ []) (N ∷ []) (on_card 4 (body.Assign (expr.Name N) (num 2)) ∷ on_card 5 body.End ∷ [])

-- `CALL S(1,2)`, `END`, `SUBROUTINE S(N)`, `END`
unfoldable pub argument_too_many : FileSet
argument_too_many = calling (num 1 ∷ num 2 ∷ []) (N ∷ []) (on_card 4 body.End ∷ [])

-- `PRINT *,NF(1)`, `END`, `INTEGER FUNCTION NF(K)`, `END`
unfoldable pub function_without_result : FileSet
function_without_result = printing_a_function (on_card 4 body.End ∷ [])

-- `PRINT *,NF(1)`, `END`, `INTEGER FUNCTION NF(K)`, `PRINT *,1`, `END`
unfoldable pub transfer_in_a_transfer : FileSet
transfer_in_a_transfer = printing_a_function (on_card 4 (print (num 1 ∷ [])) ∷ on_card 5 body.End ∷ [])

-- `CALL S`, `END`
unfoldable pub call_of_nothing : FileSet
call_of_nothing = one_file (main_program (on_card 1 (body.Call (codes "s") []) ∷ on_card 2 body.End ∷ []) ∷ [])

-- `CALL S(1,0)`, `END`, `SUBROUTINE S(A,N)`, `INTEGER A(N)`, `END`
unfoldable pub dimension_of_no_element : FileSet
dimension_of_no_element = calling (num 1 ∷ num 0 ∷ []) (codes "a" ∷ N ∷ []) (
    on_card 4 (body.Declare integer_type (array (codes "a") (record { lower = None; upper = upper.Value (expr.Name N) } ∷ []) ∷ [])) ∷
    on_card 5 body.End ∷ [])

-- `CALL S(I)`, `END`, `SUBROUTINE S(A)`, `INTEGER A(3)`, `A(2)=1`, `END`
unfoldable pub element_past_the_argument : FileSet
element_past_the_argument = calling (expr.Name I ∷ []) (codes "a" ∷ []) (
    on_card 4 (body.Declare integer_type (array (codes "a") (up_to 3 ∷ []) ∷ [])) ∷
    on_card 5 (body.Assign (expr.Apply (codes "a") (num 2 ∷ [])) (num 1)) ∷
    on_card 6 body.End ∷ [])

abbrev pub text_type : ℕ → TypeSpec
text_type n = record { basic = Character; length = Some (length'.Value (num n)) }

abbrev pub text : Bytes → Expr
text = expr.Text

-- a part of a variable
abbrev pub part : Bytes → ℕ → ℕ → Expr
part x from to = expr.Part (expr.Name x) (Some (num from)) (Some (num to))

-- `CHARACTER*3 S`, `NSQ(K)=K*K`, `S='AB'`, `PRINT *,S//'!',INDEX(S,'B'),S(2:3).LT.'C',NSQ(5)`, `END`
unfoldable pub texts_and_a_statement_function : FileSet
texts_and_a_statement_function = one_file (main_program (
    on_card 1 (body.Declare (text_type 3) (scalar (codes "s") ∷ [])) ∷
    on_card 2 (body.Assign (expr.Apply (codes "nsq") (expr.Name K ∷ [])) (times (expr.Name K) (expr.Name K))) ∷
    on_card 3 (body.Assign (expr.Name (codes "s")) (text (codes "AB"))) ∷
    on_card 4 (print (
    expr.Binary op.Concatenate (expr.Name (codes "s")) (text (codes "!")) ∷
    expr.Apply (codes "index") (expr.Name (codes "s") ∷ text (codes "B") ∷ []) ∷
    expr.Binary op.Less (part (codes "s") 2 3) (text (codes "C")) ∷
    expr.Apply (codes "nsq") (num 5 ∷ []) ∷ [])) ∷
    on_card 5 body.End ∷ []) ∷ [])

-- `NF(K)=K+I`, `NG(K)=NF(K)*NF(K+1)`, `I=1`, `K=7`, `PRINT *,NG(2),K`, `END`: the dummy arguments are names of their statement alone
unfoldable pub statement_function_in_another : FileSet
statement_function_in_another =
    let nf : Expr → Expr = λ e. expr.Apply (codes "nf") (e ∷ []) in
    one_file (main_program (
    on_card 1 (body.Assign (nf (expr.Name K)) (plus (expr.Name K) (expr.Name I))) ∷
    on_card 2 (body.Assign (expr.Apply (codes "ng") (expr.Name K ∷ [])) (times (nf (expr.Name K)) (nf (plus (expr.Name K) (num 1))))) ∷
    on_card 3 (body.Assign (expr.Name I) (num 1)) ∷
    on_card 4 (body.Assign (expr.Name K) (num 7)) ∷
    on_card 5 (print (expr.Apply (codes "ng") (num 2 ∷ []) ∷ expr.Name K ∷ [])) ∷
    on_card 6 body.End ∷ []) ∷ [])

-- `CHARACTER*4 S`, `S='ABCD'`, an assignment, `PRINT *,S`, `END`
unfoldable pub text_assigned : Expr → Expr → FileSet
text_assigned target e = one_file (main_program (
    on_card 1 (body.Declare (text_type 4) (scalar (codes "s") ∷ [])) ∷
    on_card 2 (body.Assign (expr.Name (codes "s")) (text (codes "ABCD"))) ∷
    on_card 3 (body.Assign target e) ∷
    on_card 4 (print (expr.Name (codes "s") ∷ [])) ∷
    on_card 5 body.End ∷ []) ∷ [])

-- `S(2:4)=S(1:3)`
unfoldable pub text_moved_within_itself : FileSet
text_moved_within_itself = text_assigned (part (codes "s") 2 4) (part (codes "s") 1 3)

-- `S(1:2)=S(3:4)//S`: what is past the length of the target is not referenced
unfoldable pub text_apart_from_itself : FileSet
text_apart_from_itself = text_assigned (part (codes "s") 1 2) (expr.Binary op.Concatenate (part (codes "s") 3 4) (expr.Name (codes "s")))

-- `S=CHAR(256)`
unfoldable pub code_of_no_character : FileSet
code_of_no_character = text_assigned (expr.Name (codes "s")) (expr.Apply (codes "char") (num 256 ∷ []))

-- `COMMON /B/ I,J(2)`, `I=1`, `J(1)=2`, `J(2)=3`, `CALL S`, `END`, `SUBROUTINE S`, `COMMON /B/ K(3)`, `PRINT *,K(1),K(2),K(3)`, `END`
unfoldable pub common_seen_twice : FileSet
common_seen_twice =
    let in_b : List ArrayDeclarator → Body = λ ds. body.Common (record { block = Some (codes "b"); items = ds } ∷ []) in
    let j : ℕ → Expr = λ n. expr.Apply J (num n ∷ []) in
    let k : ℕ → Expr = λ n. expr.Apply K (num n ∷ []) in
    one_file (
    main_program (
    on_card 1 (in_b (record { name = I; dimensions = [] } ∷ record { name = J; dimensions = up_to 2 ∷ [] } ∷ [])) ∷
    on_card 2 (body.Assign (expr.Name I) (num 1)) ∷
    on_card 3 (body.Assign (j 1) (num 2)) ∷
    on_card 4 (body.Assign (j 2) (num 3)) ∷
    on_card 5 (body.Call (codes "s") []) ∷
    on_card 6 body.End ∷ []) ∷
    subroutine (codes "s") [] (
    on_card 8 (in_b (record { name = K; dimensions = up_to 3 ∷ [] } ∷ [])) ∷
    on_card 9 (print (k 1 ∷ k 2 ∷ k 3 ∷ [])) ∷
    on_card 10 body.End ∷ []) ∷ [])

unfoldable pub common_setting : Setting
common_setting = record {
  homes = (record { sequence = 0; first = 0 } ∷ record { sequence = 0; first = 4 } ∷ []) ∷ (record { sequence = 0; first = 0 } ∷ []) ∷ [];
  sizes = 12 ∷ [];
}

-- `INTEGER A(4),B(4)`, `EQUIVALENCE (A(3),B(1))`, `A(4)=7`, `PRINT *,B(2)`, `END`
unfoldable pub arrays_equivalenced : FileSet
arrays_equivalenced =
    let a : ℕ → Expr = λ n. expr.Apply (codes "a") (num n ∷ []) in
    let b : ℕ → Expr = λ n. expr.Apply (codes "b") (num n ∷ []) in
    one_file (main_program (
    on_card 1 (body.Declare integer_type (array (codes "a") (up_to 4 ∷ []) ∷ array (codes "b") (up_to 4 ∷ []) ∷ [])) ∷
    on_card 2 (body.Equivalence (record { places = a 3 ∷ b 1 ∷ [] } ∷ [])) ∷
    on_card 3 (body.Assign (a 4) (num 7)) ∷
    on_card 4 (print (b 2 ∷ [])) ∷
    on_card 5 body.End ∷ []) ∷ [])

unfoldable pub arrays_setting : Setting
arrays_setting = record {
  homes = (record { sequence = 0; first = 0 } ∷ record { sequence = 0; first = 8 } ∷ []) ∷ [];
  sizes = 24 ∷ [];
}

-- `LOGICAL L`, `EQUIVALENCE (I,L)`, `I=5`, `L=.TRUE.`, a PRINT, `I=6`, `PRINT *,I`, `END`
unfoldable pub types_equivalenced : Bytes → FileSet
types_equivalenced x = one_file (main_program (
    on_card 1 (body.Declare logical_type (scalar (codes "l") ∷ [])) ∷
    on_card 2 (body.Equivalence (record { places = expr.Name I ∷ expr.Name (codes "l") ∷ [] } ∷ [])) ∷
    on_card 3 (body.Assign (expr.Name I) (num 5)) ∷
    on_card 4 (body.Assign (expr.Name (codes "l")) (expr.Logical true)) ∷
    on_card 5 (print (expr.Name x ∷ [])) ∷
    on_card 6 (body.Assign (expr.Name I) (num 6)) ∷
    on_card 7 (print (expr.Name I ∷ [])) ∷
    on_card 8 body.End ∷ []) ∷ [])

unfoldable pub types_setting : Setting
types_setting = record {
  homes = (record { sequence = 0; first = 0 } ∷ record { sequence = 0; first = 0 } ∷ []) ∷ [];
  sizes = 4 ∷ [];
}

-- `INTEGER A(3),B(2,2)`, `DATA A/2*7,8/,((B(I,J),I=1,2),J=1,2)/1,2,3,4/,K/-5/`, `PRINT *,A,B(2,1),K`, `END`
unfoldable pub values_from_data : FileSet
values_from_data = one_file (main_program (
    on_card 1 (body.Declare integer_type (array (codes "a") (up_to 3 ∷ []) ∷ array (codes "b") (up_to 2 ∷ up_to 2 ∷ []) ∷ [])) ∷
    on_card 2 (body.Init (
    record {
      places = item.Item (expr.Name (codes "a")) ∷ [];
      values = record { count = Some (num 2); value = num 7 } ∷ record { count = None; value = num 8 } ∷ [];
    } ∷
    record {
      places = item.Loop (item.Loop (item.Item (expr.Apply (codes "b") (expr.Name I ∷ expr.Name J ∷ [])) ∷ []) (from_to I (num 1) (num 2)) ∷ []) (from_to J (num 1) (num 2)) ∷ [];
      values = record { count = None; value = num 1 } ∷ record { count = None; value = num 2 } ∷ record { count = None; value = num 3 } ∷ record { count = None; value = num 4 } ∷ [];
    } ∷
    record { places = item.Item (expr.Name K) ∷ []; values = record { count = None; value = expr.Minus (num 5) } ∷ [] } ∷ [])) ∷
    on_card 3 (print (expr.Name (codes "a") ∷ expr.Apply (codes "b") (num 2 ∷ num 1 ∷ []) ∷ expr.Name K ∷ [])) ∷
    on_card 4 body.End ∷ []) ∷ [])

-- `PARAMETER (N=3,M=N*2)`, `INTEGER A(N:M)`, `DO 10 I=N,M`, label 10 `A(I)=I*I`, `PRINT *,A(M),MOD(A(4),N),MAX(1,M,N)`, `END`
unfoldable pub constants_and_bounds : FileSet
constants_and_bounds = one_file (main_program (
    on_card 1 (body.Parameter (record { name = N; value = num 3 } ∷ record { name = M; value = times (expr.Name N) (num 2) } ∷ [])) ∷
    on_card 2 (body.Declare integer_type (array (codes "a") (record { lower = Some (expr.Name N); upper = upper.Value (expr.Name M) } ∷ []) ∷ [])) ∷
    on_card 3 (body.Do (Some 10) (from_to I (expr.Name N) (expr.Name M))) ∷
    labelled 10 4 (body.Assign (expr.Apply (codes "a") (expr.Name I ∷ [])) (times (expr.Name I) (expr.Name I))) ∷
    on_card 5 (print (
    expr.Apply (codes "a") (expr.Name M ∷ []) ∷
    expr.Apply (codes "mod") (expr.Apply (codes "a") (num 4 ∷ []) ∷ expr.Name N ∷ []) ∷
    expr.Apply (codes "max") (num 1 ∷ expr.Name M ∷ expr.Name N ∷ []) ∷ [])) ∷
    on_card 6 body.End ∷ []) ∷ [])

-- `EXTERNAL NF`, `CALL S(NF,I)`, `PRINT *,I`, `END`, `SUBROUTINE S(NG,K)`, `K=NG(4)`, `END`, `INTEGER FUNCTION NF(M)`, `NF=M**3`, `END`
unfoldable pub procedure_passed : FileSet
procedure_passed = one_file (
    main_program (
    on_card 1 (body.External (codes "nf" ∷ [])) ∷
    on_card 2 (body.Call (codes "s") (expr.Name (codes "nf") ∷ expr.Name I ∷ [])) ∷
    on_card 3 (print (expr.Name I ∷ [])) ∷
    on_card 4 body.End ∷ []) ∷
    subroutine (codes "s") (codes "ng" ∷ K ∷ []) (
    on_card 6 (body.Assign (expr.Name K) (expr.Apply (codes "ng") (num 4 ∷ []))) ∷
    on_card 7 body.End ∷ []) ∷
    integer_function (codes "nf") (M ∷ []) (
    on_card 9 (body.Assign (expr.Name (codes "nf")) (expr.Binary op.Power (expr.Name M) (num 3))) ∷
    on_card 10 body.End ∷ []) ∷ [])

-- `CHARACTER*4 F`, `PRINT *,F('AB')//'!'`, `END`, `CHARACTER*(*) FUNCTION F(S)`, `CHARACTER*(*) S`, `F=S//S//S`, `END`:
-- the result has the length that the caller gives it
unfoldable pub function_of_any_length : FileSet
function_of_any_length = one_file (
    main_program (
    on_card 1 (body.Declare (text_type 4) (scalar (codes "f") ∷ [])) ∷
    on_card 2 (print (expr.Binary op.Concatenate (expr.Apply (codes "f") (text (codes "AB") ∷ [])) (text (codes "!")) ∷ [])) ∷
    on_card 3 body.End ∷ []) ∷
    unit_of (kind.Function (record { basic = Character; length = Some length'.Star })) (codes "f") (codes "s" ∷ []) (
    on_card 5 (body.Declare (record { basic = Character; length = Some length'.Star }) (scalar (codes "s") ∷ [])) ∷
    on_card 6 (body.Assign (expr.Name (codes "f")) (expr.Binary op.Concatenate (expr.Binary op.Concatenate (expr.Name (codes "s")) (expr.Name (codes "s"))) (expr.Name (codes "s")))) ∷
    on_card 7 body.End ∷ []) ∷ [])

-- `REWIND 9`, with IOSTAT or without, `PRINT *,N`, `END`
unfoldable pub unit_not_connected : List Control → FileSet
unit_not_connected controls = one_file (main_program (
    on_card 1 (body.Auxiliary auxiliary.Rewind (record { word = word.Unit; value = value.Value (num 9) } ∷ controls)) ∷
    on_card 2 (print (expr.Name N ∷ [])) ∷
    on_card 3 body.End ∷ []) ∷ [])

abbrev pub status_in : Bytes → Control
status_in x = record { word = word.Status; value = value.Value (expr.Name x) }

-- `PRINT *,1`, `BACKSPACE 6`, `PRINT *,2`, `ENDFILE 6`, `PRINT *,3`, `END`
unfoldable pub written_over : FileSet
written_over =
    let on_6 : List Control = record { word = word.Unit; value = value.Value (num 6) } ∷ [] in
    one_file (main_program (
    on_card 1 (print (num 1 ∷ [])) ∷
    on_card 2 (body.Auxiliary auxiliary.Backspace on_6) ∷
    on_card 3 (print (num 2 ∷ [])) ∷
    on_card 4 (body.Auxiliary auxiliary.EndFile on_6) ∷
    on_card 5 (print (num 3 ∷ [])) ∷
    on_card 6 body.End ∷ []) ∷ [])

-- `STOP 7`, `END`
unfoldable pub stopped : FileSet
stopped = one_file (main_program (on_card 1 (body.Stop (codes "7")) ∷ on_card 2 body.End ∷ []) ∷ [])

-- `INTEGER B(4)`, `DATA B/1,2,3,4/`, `CALL S(B,n)`, `END`, `SUBROUTINE S(A,N)`, `INTEGER A(N)`, `PRINT *,A`, `END`
unfoldable pub array_of_a_dummy : ℕ → FileSet
array_of_a_dummy n = one_file (
    main_program (
    on_card 1 (body.Declare integer_type (array (codes "b") (up_to 4 ∷ []) ∷ [])) ∷
    on_card 2 (body.Init (record {
      places = item.Item (expr.Name (codes "b")) ∷ [];
      values = record { count = None; value = num 1 } ∷ record { count = None; value = num 2 } ∷ record { count = None; value = num 3 } ∷ record { count = None; value = num 4 } ∷ [];
    } ∷ [])) ∷
    on_card 3 (body.Call (codes "s") (expr.Name (codes "b") ∷ num n ∷ [])) ∷
    on_card 4 body.End ∷ []) ∷
    subroutine (codes "s") (codes "a" ∷ N ∷ []) (
    on_card 6 (body.Declare integer_type (array (codes "a") (record { lower = None; upper = upper.Value (expr.Name N) } ∷ []) ∷ [])) ∷
    on_card 7 (print (expr.Name (codes "a") ∷ [])) ∷
    on_card 8 body.End ∷ []) ∷ [])

-- `LOGICAL LB`, `PRINT *,LB(1)`, `END`, `INTEGER FUNCTION NA(K)`, `LOGICAL LB`, `NA=K`, `ENTRY LB(K)`, `LB=K.EQ.1`, `END`
unfoldable pub entries_of_two_types : FileSet
entries_of_two_types = one_file (
    main_program (
    on_card 1 (body.Declare logical_type (scalar (codes "lb") ∷ [])) ∷
    on_card 2 (print (expr.Apply (codes "lb") (num 1 ∷ []) ∷ [])) ∷
    on_card 3 body.End ∷ []) ∷
    integer_function (codes "na") (K ∷ []) (
    on_card 5 (body.Declare logical_type (scalar (codes "lb") ∷ [])) ∷
    on_card 6 (body.Assign (expr.Name (codes "na")) (expr.Name K)) ∷
    on_card 7 (body.Entry (codes "lb") (dummy.Named K ∷ [])) ∷
    on_card 8 (body.Assign (expr.Name (codes "lb")) (expr.Binary op.Equal (expr.Name K) (num 1))) ∷
    on_card 9 body.End ∷ []) ∷ [])

unfoldable pub sources_opened : Unit {0}
unfolding sum_printed loop_look_alike loop_that_never_turns loop_to_the_last_integer least_integer sign_of_the_least operands_from_the_left decided_and dummies_that_overlap entries_share_a_result alternate_returns assigned element_past_the_last step_of_zero variable_changed_in_its_loop calling printing_a_function dummy_of_another_entry assigned_branch arms shared_terminal implied_loops division_by_zero variable_without_value recursion constant_defined argument_too_many function_without_result transfer_in_a_transfer call_of_nothing dimension_of_no_element element_past_the_argument texts_and_a_statement_function statement_function_in_another text_assigned text_moved_within_itself text_apart_from_itself code_of_no_character common_seen_twice common_setting arrays_equivalenced arrays_setting types_equivalenced types_setting values_from_data constants_and_bounds procedure_passed function_of_any_length unit_not_connected written_over stopped array_of_a_dummy entries_of_two_types
sources_opened = tt
