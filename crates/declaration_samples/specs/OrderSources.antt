-- Small programs that break rows of order, of blocks, of formats, of references and of names, and others that do not quite.
use Rattle.std.specs.Prelude.{ℕ, suc, true, List, [], ◌∷◌, codes, Some, None}
use Rattle.declaration_rows.specs.f_tree.declared.expressions.Expr.{Expr}
use Rattle.declaration_rows.specs.f_tree.declared.expressions.Expr as expr
use Rattle.declaration_rows.specs.f_tree.declared.statements.Body.{Body}
use Rattle.declaration_rows.specs.f_tree.declared.statements.Body as body
use Rattle.declaration_rows.specs.f_tree.declared.statements.ListItem as item
use Rattle.declaration_rows.specs.f_tree.declared.statements.ControlValue.TheVariants as value
use Rattle.declaration_rows.specs.f_tree.declared.statements.ControlWord.TheVariants as word
use Rattle.declaration_rows.specs.f_tree.declared.statements.Direction.TheVariants as way
use Rattle.declaration_rows.specs.f_tree.declared.statements.SavedItem.TheVariants as saved
use Rattle.declaration_rows.specs.f_tree.declared.statements.UnitKind.TheVariants as kind
use Rattle.declaration_rows.specs.f_tree.declared.statements.Stmt.{Stmt}
use Rattle.declaration_rows.specs.f_tree.declared.names.Basic.TheVariants.{Character}
use Rattle.declaration_rows.specs.f_tree.declared.units.Unit.{Unit as WrittenUnit}
use Rattle.declaration_rows.specs.f_tree.declared.units.FileSet.{FileSet}
use Rattle.fortran_rows.specs.WorkedSources.{on_card, labelled, main_program, unit_of, one_file, integer_type, num, up_to, scalar, from_to, I, J}

-- statements on cards of their own, from one on
unfoldable pub carded : ℕ → List Body → List Stmt
carded n [] = []
carded n (b ∷ bs) = on_card n b ∷ carded (suc n) bs

unfoldable pub main_of : List Body → FileSet
main_of bodies = one_file (main_program (carded 1 bodies) ∷ [])

unfoldable pub subroutine_of : List Stmt → FileSet
subroutine_of statements = one_file (unit_of kind.Subroutine (codes "s") [] statements ∷ [])

abbrev set_to_one : Body
set_to_one = body.Assign (expr.Name I) (num 1)

abbrev implicit_a : Body
implicit_a = body.Implicit (record { spec = integer_type; letters = record { first = 97; last = 97 } ∷ [] } ∷ [])

abbrev constant_j : Body
constant_j = body.Parameter (record { name = J; value = num 2 } ∷ [])

-- `I=1`, `DIMENSION J(2)`, `END`
unfoldable pub dimension_too_late : FileSet
dimension_too_late = main_of (set_to_one ∷ body.Dimension (record { name = J; dimensions = up_to 2 ∷ [] } ∷ []) ∷ body.End ∷ [])

-- `INTEGER I`, `IMPLICIT INTEGER (A)`, `END`
unfoldable pub implicit_too_late : FileSet
implicit_too_late = main_of (body.Declare integer_type (scalar I ∷ []) ∷ implicit_a ∷ body.End ∷ [])

-- `PARAMETER (J=2)`, `IMPLICIT INTEGER (A)`, `INTEGER I`, `I=1`, `END`
unfoldable pub constants_among_implicits : FileSet
constants_among_implicits = main_of (constant_j ∷ implicit_a ∷ body.Declare integer_type (scalar I ∷ []) ∷ set_to_one ∷ body.End ∷ [])

-- `PARAMETER (J=2)`, `INTEGER J`, `END`
unfoldable pub constant_typed_too_late : FileSet
constant_typed_too_late = main_of (constant_j ∷ body.Declare integer_type (scalar J ∷ []) ∷ body.End ∷ [])

-- `IF (.TRUE.) RETURN`, `END`
unfoldable pub return_of_a_main_program : FileSet
return_of_a_main_program = main_of (body.IfOne (expr.Logical true) (body.Return None) ∷ body.End ∷ [])

-- `BLOCK DATA B`, `I=1`, `END`
unfoldable pub assignment_in_block_data : FileSet
assignment_in_block_data = one_file (unit_of kind.BlockData (codes "b") [] (on_card 2 set_to_one ∷ on_card 3 body.End ∷ []) ∷ [])

-- `I=1`, `NF(J)=J`, `END`
unfoldable pub definition_too_late : FileSet
definition_too_late = main_of (set_to_one ∷ body.Assign (expr.Apply (codes "nf") (expr.Name J ∷ [])) (expr.Name J) ∷ body.End ∷ [])

-- `IMPLICIT NONE`, `I=1`, `END`
unfoldable pub variable_not_declared : FileSet
variable_not_declared = main_of (body.ImplicitNone ∷ set_to_one ∷ body.End ∷ [])

-- `IMPLICIT NONE`, `INTEGER I`, `I=1`, `END`
unfoldable pub variable_declared : FileSet
variable_declared = main_of (body.ImplicitNone ∷ body.Declare integer_type (scalar I ∷ []) ∷ set_to_one ∷ body.End ∷ [])

-- `IMPLICIT NONE`, `IMPLICIT INTEGER (A)`, `END`
unfoldable pub implicit_twice : FileSet
implicit_twice = main_of (body.ImplicitNone ∷ implicit_a ∷ body.End ∷ [])

-- `ENTRY E`, `END` in a main program
unfoldable pub entry_of_a_main_program : FileSet
entry_of_a_main_program = main_of (body.Entry (codes "e") [] ∷ body.End ∷ [])

abbrev loop : Body
loop = body.Do (Some 10) (from_to I (num 1) (num 2))

-- `SUBROUTINE S`, `DO 10 I=1,2`, `ENTRY E`, `10 CONTINUE`, `END`
unfoldable pub entry_in_a_loop : FileSet
entry_in_a_loop =
    subroutine_of (on_card 2 loop ∷ on_card 3 (body.Entry (codes "e") []) ∷ labelled 10 4 body.Continue ∷ on_card 5 body.End ∷ [])

-- `GO TO 10`, `DO 10 I=1,2`, `10 CONTINUE`, `END`
unfoldable pub branch_into_a_loop : FileSet
branch_into_a_loop =
    one_file (main_program (on_card 1 (body.Goto 10) ∷ on_card 2 loop ∷ labelled 10 3 body.Continue ∷ on_card 4 body.End ∷ []) ∷ [])

-- `DO 10 I=1,2`, `GO TO 10`, `10 CONTINUE`, `END`
unfoldable pub branch_within_a_loop : FileSet
branch_within_a_loop =
    one_file (main_program (on_card 1 loop ∷ on_card 2 (body.Goto 10) ∷ labelled 10 3 body.Continue ∷ on_card 4 body.End ∷ []) ∷ [])

-- `IF (.TRUE.) THEN`, `GO TO LABEL`, `ELSE`, `20 CONTINUE`, `30 END IF`, `END`
unfoldable pub branch_out_of_an_arm : ℕ → FileSet
branch_out_of_an_arm label = one_file (main_program (
    on_card 1 (body.IfThen (expr.Logical true)) ∷ on_card 2 (body.Goto label) ∷ on_card 3 body.Else ∷
    labelled 20 4 body.Continue ∷ labelled 30 5 body.EndIf ∷ on_card 6 body.End ∷ []) ∷ [])

-- `GO TO (10,20), I`, and an IF block with label 20 in it
unfoldable pub computed_branch_into_an_arm : FileSet
computed_branch_into_an_arm = one_file (main_program (
    on_card 1 set_to_one ∷ on_card 2 (body.GotoList (10 ∷ 20 ∷ []) (expr.Name I)) ∷ labelled 10 3 (body.IfThen (expr.Logical true)) ∷
    labelled 20 4 body.Continue ∷ on_card 5 body.EndIf ∷ on_card 6 body.End ∷ []) ∷ [])

-- `CALL S(1)`, `CALL S(..)`, `END`
unfoldable pub second_call : List Expr → FileSet
second_call es = main_of (body.Call (codes "s") (num 1 ∷ []) ∷ body.Call (codes "s") es ∷ body.End ∷ [])

-- `CHARACTER C`, `EXTERNAL C`, `CALL S(C)`, `END`
unfoldable pub character_function_passed : FileSet
character_function_passed = main_of (
    body.Declare (record { basic = Character; length = None }) (scalar (codes "c") ∷ []) ∷ body.External (codes "c" ∷ []) ∷
    body.Call (codes "s") (expr.Name (codes "c") ∷ []) ∷ body.End ∷ [])

-- `10 FORMAT` with a text, `END`
unfoldable pub format_of_text : List ℕ → FileSet
format_of_text cs = one_file (main_program (labelled 10 1 (body.Format cs) ∷ on_card 2 body.End ∷ []) ∷ [])

-- `WRITE (6, ..) 1`, `END`
unfoldable pub written_by : Expr → FileSet
written_by e = main_of (body.Transfer way.Write (record { word = word.Unit; value = value.Value (num 6) } ∷ record { word = word.Format; value = value.Value e } ∷ [])
    (item.Item (num 1) ∷ []) ∷ body.End ∷ [])

-- two units, the second on card 3
unfoldable pub two_units : WrittenUnit → WrittenUnit → FileSet
two_units u v = one_file (u ∷ record v { card = 3 } ∷ [])

unfoldable pub small_subroutine : List ℕ → WrittenUnit
small_subroutine x = unit_of kind.Subroutine x [] (on_card 2 body.End ∷ [])

unfoldable pub small_main : WrittenUnit
small_main = main_program (on_card 2 body.End ∷ [])

-- `SUBROUTINE T`, `COMMON /S/ I`, `END`
unfoldable pub with_block : WrittenUnit
with_block = unit_of kind.Subroutine (codes "t") []
    (on_card 4 (body.Common (record { block = Some (codes "s"); items = record { name = I; dimensions = [] } ∷ [] } ∷ [])) ∷ on_card 5 body.End ∷ [])

abbrev dimension_j : ℕ → Body
dimension_j n = body.Dimension (record { name = J; dimensions = up_to n ∷ [] } ∷ [])

abbrev integer_i : Body
integer_i = body.Declare integer_type (scalar I ∷ [])

-- two statements that speak of one name, and `END`
unfoldable pub shaped_twice : FileSet
shaped_twice = main_of (dimension_j 2 ∷ dimension_j 3 ∷ body.End ∷ [])

unfoldable pub typed_twice : FileSet
typed_twice = main_of (integer_i ∷ integer_i ∷ body.End ∷ [])

unfoldable pub external_and_intrinsic : FileSet
external_and_intrinsic = main_of (body.External (codes "abs" ∷ []) ∷ body.Intrinsic (codes "abs" ∷ []) ∷ body.End ∷ [])

unfoldable pub common_saved : FileSet
common_saved = main_of (body.Common (record { block = None; items = record { name = I; dimensions = [] } ∷ [] } ∷ []) ∷ body.Save (saved.Named I ∷ []) ∷ body.End ∷ [])

unfoldable pub saved_and_typed : FileSet
saved_and_typed = main_of (body.Save (saved.Named I ∷ []) ∷ integer_i ∷ body.End ∷ [])

unfoldable pub constant_shaped : FileSet
constant_shaped = main_of (constant_j ∷ dimension_j 2 ∷ body.End ∷ [])

unfoldable pub dummy_twice : FileSet
dummy_twice = one_file (unit_of kind.Subroutine (codes "s") (I ∷ I ∷ []) (on_card 2 body.End ∷ []) ∷ [])

unfoldable pub order_sources_opened : Unit {0}
unfolding carded main_of subroutine_of dimension_too_late implicit_too_late constants_among_implicits constant_typed_too_late return_of_a_main_program assignment_in_block_data definition_too_late variable_not_declared variable_declared implicit_twice entry_of_a_main_program entry_in_a_loop branch_into_a_loop branch_within_a_loop branch_out_of_an_arm computed_branch_into_an_arm second_call character_function_passed format_of_text written_by two_units small_subroutine small_main with_block shaped_twice typed_twice external_and_intrinsic common_saved saved_and_typed constant_shaped dummy_twice
order_sources_opened = tt
