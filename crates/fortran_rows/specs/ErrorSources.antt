-- Errors of transfers and of OPEN, what stands after them, and STOP: small programs as trees, each for one worked run.
use Rattle.std.specs.Prelude.{List, [], ◌∷◌, ℕ, codes, Some}
use Rattle.fortran_checks.specs.f_tree.declared.expressions.Expr.{Expr}
use Rattle.fortran_checks.specs.f_tree.declared.expressions.Expr as expr
use Rattle.fortran_checks.specs.f_tree.declared.statements.Body.{Body}
use Rattle.fortran_checks.specs.f_tree.declared.statements.Body as body
use Rattle.fortran_checks.specs.f_tree.declared.statements.ListItem as item
use Rattle.fortran_checks.specs.f_tree.declared.statements.Control.{Control}
use Rattle.fortran_checks.specs.f_tree.declared.statements.ControlValue.TheVariants as value
use Rattle.fortran_checks.specs.f_tree.declared.statements.ControlWord.TheVariants as word
use Rattle.fortran_checks.specs.f_tree.declared.statements.Direction.TheVariants as way
use Rattle.fortran_checks.specs.f_tree.declared.statements.AuxiliaryKind.TheVariants as auxiliary
use Rattle.fortran_checks.specs.f_tree.declared.statements.LengthSpec.TheVariants as length'
use Rattle.fortran_checks.specs.f_tree.declared.names.Basic.TheVariants.{Character}
use Rattle.fortran_checks.specs.f_tree.declared.units.FileSet.{FileSet}
use Rattle.fortran_checks.specs.f_tree.Values.{Bytes}
use Rattle.fortran_rows.specs.WorkedSources.{on_card, labelled, items, print, main_program, one_file, logical_type, num, scalar, I, J, K, N, text, status_in, text_assigned, part}

abbrev name_of : Bytes → Expr
name_of x = expr.Name x

abbrev unit_is : Expr → Control
unit_is e = record { word = word.Unit; value = value.Value e }

abbrev format_is : Expr → Control
format_is e = record { word = word.Format; value = value.Value e }

abbrev file_is : Expr → Control
file_is e = record { word = word.File; value = value.Value e }

-- a transfer by a format, with IOSTAT
abbrev reading : Expr → Expr → Bytes → List Expr → Body
reading unit format status es = body.Transfer way.Read (unit_is unit ∷ format_is format ∷ status_in status ∷ []) (items es)

abbrev writing : Expr → Expr → Bytes → List Expr → Body
writing unit format status es = body.Transfer way.Write (unit_is unit ∷ format_is format ∷ status_in status ∷ []) (items es)

abbrev text_name : ℕ → Bytes → Body
text_name n x = body.Declare (record { basic = Character; length = Some (length'.Value (num n)) }) (scalar x ∷ [])

-- `CHARACTER*11 C`, `LOGICAL L`, `C='99999999999'`, `READ (C,'(L1)',IOSTAT=I2) L`, `READ (C,'(I11)',IOSTAT=I3) K`, `WRITE (C,'(1X)',IOSTAT=I4) 5`,
-- `WRITE (C,'(I12)',IOSTAT=I5) 5`, `OPEN (6,FILE='D',IOSTAT=I8)`, `C='(Q)'`, `WRITE (6,C,IOSTAT=I10) 5`, `PRINT *,I2,I3,I4,I5,I8,I10`, `END`
unfoldable pub numbers_of_errors : FileSet
numbers_of_errors =
    let c : Expr = name_of (codes "c") in
    one_file (main_program (
    on_card 1 (text_name 11 (codes "c")) ∷
    on_card 2 (body.Declare logical_type (scalar (codes "l") ∷ [])) ∷
    on_card 3 (body.Assign c (text (codes "99999999999"))) ∷
    on_card 4 (reading c (text (codes "(L1)")) (codes "i2") (name_of (codes "l") ∷ [])) ∷
    on_card 5 (reading c (text (codes "(I11)")) (codes "i3") (name_of K ∷ [])) ∷
    on_card 6 (writing c (text (codes "(1X)")) (codes "i4") (num 5 ∷ [])) ∷
    on_card 7 (writing c (text (codes "(I12)")) (codes "i5") (num 5 ∷ [])) ∷
    on_card 8 (body.Auxiliary auxiliary.OpenUnit (unit_is (num 6) ∷ file_is (text (codes "D")) ∷ status_in (codes "i8") ∷ [])) ∷
    on_card 9 (body.Assign c (text (codes "(Q)"))) ∷
    on_card 10 (writing (num 6) c (codes "i10") (num 5 ∷ [])) ∷
    on_card 11 (print (name_of (codes "i2") ∷ name_of (codes "i3") ∷ name_of (codes "i4") ∷ name_of (codes "i5") ∷ name_of (codes "i8") ∷ name_of (codes "i10") ∷ [])) ∷
    on_card 12 body.End ∷ []) ∷ [])

-- `CHARACTER*2 C`, `C='7X'`, `J=9`, `READ (C,'(2I1)',IOSTAT=N) I,J`, `PRINT *,I,J,N`, `END`
unfoldable pub items_before_an_error : FileSet
items_before_an_error =
    let c : Expr = name_of (codes "c") in
    one_file (main_program (
    on_card 1 (text_name 2 (codes "c")) ∷
    on_card 2 (body.Assign c (text (codes "7X"))) ∷
    on_card 3 (body.Assign (name_of J) (num 9)) ∷
    on_card 4 (reading c (text (codes "(2I1)")) N (name_of I ∷ name_of J ∷ [])) ∷
    on_card 5 (print (name_of I ∷ name_of J ∷ name_of N ∷ [])) ∷
    on_card 6 body.End ∷ []) ∷ [])

-- `WRITE (6,'(I3/I2,(1X))',IOSTAT=N) 1,2,3`, `PRINT *,N`, `END`: the record that is being made is not written
unfoldable pub record_of_an_error : FileSet
record_of_an_error = one_file (main_program (
    on_card 1 (writing (num 6) (text (codes "(I3/I2,(1X))")) N (num 1 ∷ num 2 ∷ num 3 ∷ [])) ∷
    on_card 2 (print (name_of N ∷ [])) ∷
    on_card 3 body.End ∷ []) ∷ [])

-- `OPEN (9)`, `OPEN (8,FILE='D  ')`, `WRITE (9,'(I1)') 4`, `REWIND 9`, `READ (9,'(I1)') I`, `PRINT *,I`, `END`
unfoldable pub files_by_their_names : FileSet
files_by_their_names = one_file (main_program (
    on_card 1 (body.Auxiliary auxiliary.OpenUnit (unit_is (num 9) ∷ [])) ∷
    on_card 2 (body.Auxiliary auxiliary.OpenUnit (unit_is (num 8) ∷ file_is (text (codes "D  ")) ∷ [])) ∷
    on_card 3 (body.Transfer way.Write (unit_is (num 9) ∷ format_is (text (codes "(I1)")) ∷ []) (items (num 4 ∷ []))) ∷
    on_card 4 (body.Auxiliary auxiliary.Rewind (unit_is (num 9) ∷ [])) ∷
    on_card 5 (body.Transfer way.Read (unit_is (num 9) ∷ format_is (text (codes "(I1)")) ∷ []) (items (name_of I ∷ []))) ∷
    on_card 6 (print (name_of I ∷ [])) ∷
    on_card 7 body.End ∷ []) ∷ [])

-- `PRINT *,(I,I=1,2,0)`, `END`
unfoldable pub items_with_step_of_zero : FileSet
items_with_step_of_zero = one_file (main_program (
    on_card 1 (body.Transfer way.Write (record { word = word.Unit; value = value.Star } ∷ record { word = word.Format; value = value.Star } ∷ [])
    (item.Loop (item.Item (name_of I) ∷ []) (record { variable = I; first = num 1; limit = num 2; step = Some (num 0) }) ∷ [])) ∷
    on_card 2 body.End ∷ []) ∷ [])

-- `CHARACTER*3 C`, `SAVE`, `C='(Q)'`, `WRITE (7,C,IOSTAT=N) 5`, `PRINT *,N`, `END`: the unit is looked up before the format
unfoldable pub unit_before_format : FileSet
unit_before_format = one_file (main_program (
    on_card 1 (text_name 3 (codes "c")) ∷
    on_card 2 (body.Save []) ∷
    on_card 3 (body.Assign (name_of (codes "c")) (text (codes "(Q)"))) ∷
    on_card 4 (writing (num 7) (name_of (codes "c")) N (num 5 ∷ [])) ∷
    on_card 5 (print (name_of N ∷ [])) ∷
    on_card 6 body.End ∷ []) ∷ [])

-- `READ (5,'(I1)',ERR=10) I`, label 10 `PRINT *,1`, `END`: the end of the records is no error
unfoldable pub end_is_no_error : FileSet
end_is_no_error = one_file (main_program (
    on_card 1 (body.Transfer way.Read (unit_is (num 5) ∷ format_is (text (codes "(I1)")) ∷ record { word = word.OnError; value = value.Label 10 } ∷ []) (items (name_of I ∷ []))) ∷
    labelled 10 2 (print (num 1 ∷ [])) ∷
    on_card 3 body.End ∷ []) ∷ [])

-- `PRINT *,1`, `STOP`, `PRINT *,2`, `END`
unfoldable pub stopped_without_a_text : FileSet
stopped_without_a_text = one_file (main_program (
    on_card 1 (print (num 1 ∷ [])) ∷
    on_card 2 (body.Stop []) ∷
    on_card 3 (print (num 2 ∷ [])) ∷
    on_card 4 body.End ∷ []) ∷ [])

-- `S(2:4)=(S(1:3))`: parentheses round a piece change nothing
unfoldable pub text_in_parentheses_moved : FileSet
text_in_parentheses_moved = text_assigned (part (codes "s") 2 4) (expr.Paren (part (codes "s") 1 3))

unfoldable pub error_sources_opened : Unit {0}
unfolding numbers_of_errors items_before_an_error record_of_an_error files_by_their_names items_with_step_of_zero unit_before_format end_is_no_error stopped_without_a_text text_in_parentheses_moved
error_sources_opened = tt
