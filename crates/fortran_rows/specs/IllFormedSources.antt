-- Small programs as trees that are not well formed, each by one rule; their runs come to a form without meaning.
use Rattle.std.specs.Prelude.{true, false, [], ◌∷◌, codes, Some, None}
use Rattle.fortran_checks.specs.f_tree.declared.expressions.Expr as expr
use Rattle.fortran_checks.specs.f_tree.declared.statements.Body as body
use Rattle.fortran_checks.specs.f_tree.declared.statements.ListItem as item
use Rattle.fortran_checks.specs.f_tree.declared.statements.ControlValue.TheVariants as value
use Rattle.fortran_checks.specs.f_tree.declared.statements.ControlWord.TheVariants as word
use Rattle.fortran_checks.specs.f_tree.declared.statements.Direction.TheVariants as way
use Rattle.fortran_checks.specs.f_tree.declared.statements.LengthSpec.TheVariants as length'
use Rattle.fortran_checks.specs.f_tree.declared.statements.UpperBound.TheVariants as upper
use Rattle.fortran_checks.specs.f_tree.declared.names.Basic.TheVariants.{Character}
use Rattle.fortran_checks.specs.f_tree.declared.units.FileSet.{FileSet}
use Rattle.fortran_rows.specs.WorkedSources.{on_card, print, main_program, one_file, subroutine, integer_type, logical_type, num, up_to, scalar, array, from_to, I, J, K, plus, assigned, text}

-- `I='A'`, `END`
unfoldable pub text_to_an_integer : FileSet
text_to_an_integer = assigned (text (codes "A"))

-- `I=1+.TRUE.`, `END`
unfoldable pub sum_with_a_logical : FileSet
sum_with_a_logical = assigned (plus (num 1) (expr.Logical true))

-- `X=1`, `END`: X would be REAL
unfoldable pub variable_without_type : FileSet
variable_without_type = one_file (main_program (on_card 1 (body.Assign (expr.Name (codes "x")) (num 1)) ∷ on_card 2 body.End ∷ []) ∷ [])

-- `GO TO 10`, `END`
unfoldable pub branch_to_no_statement : FileSet
branch_to_no_statement = one_file (main_program (on_card 1 (body.Goto 10) ∷ on_card 2 body.End ∷ []) ∷ [])

-- `IF (.FALSE.) THEN`, `END`
unfoldable pub block_left_open : FileSet
block_left_open = one_file (main_program (on_card 1 (body.IfThen (expr.Logical false)) ∷ on_card 2 body.End ∷ []) ∷ [])

-- `I=1`
unfoldable pub unit_without_its_end : FileSet
unit_without_its_end = one_file (main_program (on_card 1 (body.Assign (expr.Name I) (num 1)) ∷ []) ∷ [])

-- `DO 10 I=1,3`, `END`
unfoldable pub loop_without_its_end : FileSet
loop_without_its_end = one_file (main_program (on_card 1 (body.Do (Some 10) (from_to I (num 1) (num 3))) ∷ on_card 2 body.End ∷ []) ∷ [])

-- `DO WHILE (.TRUE.)`, `END`
unfoldable pub while_without_its_end : FileSet
while_without_its_end = one_file (main_program (on_card 1 (body.DoWhile None (expr.Logical true)) ∷ on_card 2 body.End ∷ []) ∷ [])

-- `DO WHILE (1)`, `END DO`, `END`
unfoldable pub while_over_a_number : FileSet
while_over_a_number = one_file (main_program (on_card 1 (body.DoWhile None (num 1)) ∷ on_card 2 body.EndDo ∷ on_card 3 body.End ∷ []) ∷ [])

-- `I=IOR(.TRUE.,1)`, `END`
unfoldable pub bit_of_a_logical : FileSet
bit_of_a_logical = assigned (expr.Apply (codes "ior") (expr.Logical true ∷ num 1 ∷ []))

-- `INTEGER A(2,2)`, `A(1)=1`, `END`
unfoldable pub subscripts_too_few : FileSet
subscripts_too_few = one_file (main_program (
    on_card 1 (body.Declare integer_type (array (codes "a") (up_to 2 ∷ up_to 2 ∷ []) ∷ [])) ∷
    on_card 2 (body.Assign (expr.Apply (codes "a") (num 1 ∷ [])) (num 1)) ∷
    on_card 3 body.End ∷ []) ∷ [])

-- `PRINT 10,1`, `END`
unfoldable pub format_that_is_nowhere : FileSet
format_that_is_nowhere = one_file (main_program (
    on_card 1 (body.Transfer way.Write (record { word = word.Unit; value = value.Star } ∷ record { word = word.Format; value = value.Label 10 } ∷ []) (item.Item (num 1) ∷ [])) ∷
    on_card 2 body.End ∷ []) ∷ [])

-- `READ (5) I`, `END`
unfoldable pub transfer_without_format : FileSet
transfer_without_format = one_file (main_program (
    on_card 1 (body.Transfer way.Read (record { word = word.Unit; value = value.Value (num 5) } ∷ []) (item.Item (expr.Name I) ∷ [])) ∷
    on_card 2 body.End ∷ []) ∷ [])

-- `CHARACTER*(*) C`, `C='A'`, `END`
unfoldable pub variable_of_any_length : FileSet
variable_of_any_length = one_file (main_program (
    on_card 1 (body.Declare (record { basic = Character; length = Some length'.Star }) (scalar (codes "c") ∷ [])) ∷
    on_card 2 (body.Assign (expr.Name (codes "c")) (text (codes "A"))) ∷
    on_card 3 body.End ∷ []) ∷ [])

-- `CALL S(1)`, `END`, `SUBROUTINE S(J)`, `INTEGER J(*)`, `PRINT *,J`, `END`
unfoldable pub array_of_any_size_in_a_list : FileSet
array_of_any_size_in_a_list = one_file (
    main_program (on_card 1 (body.Call (codes "s") (num 1 ∷ [])) ∷ on_card 2 body.End ∷ []) ∷
    subroutine (codes "s") (J ∷ []) (
    on_card 4 (body.Declare integer_type (array J (record { lower = None; upper = upper.Star } ∷ []) ∷ [])) ∷
    on_card 5 (print (expr.Name J ∷ [])) ∷
    on_card 6 body.End ∷ []) ∷ [])

-- `CALL S(1,.TRUE.)`, `END`, `SUBROUTINE S(J,K)`, `LOGICAL K`, `INTEGER J(K)`, `END`
unfoldable pub dimension_of_another_type : FileSet
dimension_of_another_type = one_file (
    main_program (on_card 1 (body.Call (codes "s") (num 1 ∷ expr.Logical true ∷ [])) ∷ on_card 2 body.End ∷ []) ∷
    subroutine (codes "s") (J ∷ K ∷ []) (
    on_card 4 (body.Declare logical_type (scalar K ∷ [])) ∷
    on_card 5 (body.Declare integer_type (array J (record { lower = None; upper = upper.Value (expr.Name K) } ∷ []) ∷ [])) ∷
    on_card 6 body.End ∷ []) ∷ [])

unfoldable pub ill_formed_sources_opened : Unit {0}
unfolding text_to_an_integer sum_with_a_logical variable_without_type branch_to_no_statement block_left_open unit_without_its_end loop_without_its_end while_without_its_end while_over_a_number bit_of_a_logical subscripts_too_few format_that_is_nowhere transfer_without_format variable_of_any_length array_of_any_size_in_a_list dimension_of_another_type assigned
ill_formed_sources_opened = tt
