-- What is no operand (5.7.1, 15.4, 15.10): small programs as trees that are not well formed; their runs come to a form without meaning.
use Rattle.std.specs.Prelude.{List, [], ◌∷◌, codes, Some}
use Rattle.fortran_checks.specs.f_tree.declared.expressions.Expr.{Expr}
use Rattle.fortran_checks.specs.f_tree.declared.expressions.Expr as expr
use Rattle.fortran_checks.specs.f_tree.declared.statements.Body.{Body}
use Rattle.fortran_checks.specs.f_tree.declared.statements.Body as body
use Rattle.fortran_checks.specs.f_tree.declared.statements.UnitKind.TheVariants as kind
use Rattle.fortran_checks.specs.f_tree.declared.units.FileSet.{FileSet}
use Rattle.fortran_rows.specs.WorkedSources.{on_card, print, main_program, one_file, unit_of, subroutine, num, scalar, K, M, plus, text_type, text, part}

-- two statements, a PRINT with one item, `END`
unfoldable pub printed_after : Body → Body → Expr → FileSet
printed_after first second e = one_file (main_program (
    on_card 1 first ∷ on_card 2 second ∷ on_card 3 (print (e ∷ [])) ∷ on_card 4 body.End ∷ []) ∷ [])

-- `CHARACTER*3 C`, `PARAMETER (C='abc')`, `PRINT *,C(2:3)`, `END`
unfoldable pub part_of_a_constant : FileSet
part_of_a_constant =
    printed_after (body.Declare (text_type 3) (scalar (codes "c") ∷ []))
    (body.Parameter (record { name = codes "c"; value = text (codes "abc") } ∷ [])) (part (codes "c") 2 3)

-- `CHARACTER*3 F,C`, `F(C)=C(2:3)`, `PRINT *,F('abc')`, `END`
unfoldable pub part_of_a_dummy : FileSet
part_of_a_dummy =
    let f : Expr → Expr = λ e. expr.Apply (codes "f") (e ∷ []) in
    printed_after (body.Declare (text_type 3) (scalar (codes "f") ∷ scalar (codes "c") ∷ []))
    (body.Assign (f (expr.Name (codes "c"))) (part (codes "c") 2 3)) (f (text (codes "abc")))

-- `CHARACTER*3 F`, `PRINT *,F(1)(2:3)`, `END`, `CHARACTER*3 FUNCTION F(K)`, `F='abc'`, `END`
unfoldable pub part_of_a_value : FileSet
part_of_a_value = one_file (
    main_program (
    on_card 1 (body.Declare (text_type 3) (scalar (codes "f") ∷ [])) ∷
    on_card 2 (print (expr.Part (expr.Apply (codes "f") (num 1 ∷ [])) (Some (num 2)) (Some (num 3)) ∷ [])) ∷
    on_card 3 body.End ∷ []) ∷
    unit_of (kind.Function (text_type 3)) (codes "f") (K ∷ []) (
    on_card 5 (body.Assign (expr.Name (codes "f")) (text (codes "abc"))) ∷
    on_card 6 body.End ∷ []) ∷ [])

-- `INTRINSIC NINT`, `PRINT *,NINT(1)`, `END`
unfoldable pub no_such_intrinsic : FileSet
no_such_intrinsic = one_file (main_program (
    on_card 1 (body.Intrinsic (codes "nint" ∷ [])) ∷
    on_card 2 (print (expr.Apply (codes "nint") (num 1 ∷ []) ∷ [])) ∷
    on_card 3 body.End ∷ []) ∷ [])

-- `PRINT *,MOD` and so many arguments, `END`
unfoldable pub remainder_over : List Expr → FileSet
remainder_over es = one_file (main_program (on_card 1 (print (expr.Apply (codes "mod") es ∷ [])) ∷ on_card 2 body.End ∷ []) ∷ [])

-- `NF(K,M)=K+M`, `PRINT *,NF(1)`, `END`
unfoldable pub arguments_too_few : FileSet
arguments_too_few =
    let nf : List Expr → Expr = expr.Apply (codes "nf") in
    one_file (main_program (
    on_card 1 (body.Assign (nf (expr.Name K ∷ expr.Name M ∷ [])) (plus (expr.Name K) (expr.Name M))) ∷
    on_card 2 (print (nf (num 1 ∷ []) ∷ [])) ∷
    on_card 3 body.End ∷ []) ∷ [])

-- `CALL NS`, `END`, `SUBROUTINE NS`, `PRINT *,NS`, `END`
unfoldable pub subroutine_as_operand : FileSet
subroutine_as_operand = one_file (
    main_program (on_card 1 (body.Call (codes "ns") []) ∷ on_card 2 body.End ∷ []) ∷
    subroutine (codes "ns") [] (on_card 4 (print (expr.Name (codes "ns") ∷ [])) ∷ on_card 5 body.End ∷ []) ∷ [])

-- `CALL NS`, `END`, `SUBROUTINE NS`, `CALL NT(NS)`, `END`, `SUBROUTINE NT(K)`, `END`
unfoldable pub subroutine_as_argument : FileSet
subroutine_as_argument = one_file (
    main_program (on_card 1 (body.Call (codes "ns") []) ∷ on_card 2 body.End ∷ []) ∷
    subroutine (codes "ns") [] (on_card 4 (body.Call (codes "nt") (expr.Name (codes "ns") ∷ [])) ∷ on_card 5 body.End ∷ []) ∷
    subroutine (codes "nt") (K ∷ []) (on_card 7 body.End ∷ []) ∷ [])

-- `PROGRAM NP`, `PRINT *,NP`, `END`
unfoldable pub program_as_operand : FileSet
program_as_operand = one_file (record (main_program (on_card 2 (print (expr.Name (codes "np") ∷ [])) ∷ on_card 3 body.End ∷ [])) { name = Some (codes "np") } ∷ [])

unfoldable pub operands_sources_opened : Unit {0}
unfolding printed_after part_of_a_constant part_of_a_dummy part_of_a_value no_such_intrinsic remainder_over arguments_too_few subroutine_as_operand subroutine_as_argument program_as_operand
operands_sources_opened = tt
