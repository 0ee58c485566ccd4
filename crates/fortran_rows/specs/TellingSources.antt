-- Small programs as trees, each of which would write other records under a near but wrong reading of the standard.
use Rattle.std.specs.Prelude.{[], ◌∷◌, codes, List, Some}
use Rattle.fortran_checks.specs.f_tree.declared.expressions.Expr as expr
use Rattle.fortran_checks.specs.f_tree.declared.expressions.BinaryOp.TheVariants as op
use Rattle.fortran_checks.specs.f_tree.declared.statements.Body.{Body}
use Rattle.fortran_checks.specs.f_tree.declared.statements.Body as body
use Rattle.fortran_checks.specs.f_tree.declared.statements.DummyArgument.TheVariants as dummy
use Rattle.fortran_checks.specs.f_tree.declared.units.FileSet.{FileSet}
use Rattle.fortran_checks.specs.f_tree.Values.{Bytes}
use Rattle.fortran_checks.specs.f_tree.Setting.{Setting}
use Rattle.fortran_rows.specs.WorkedSources.{on_card, print, main_program, one_file, integer_function, subroutine, integer_type, num, scalar, I, J, K, plus, times, text_type, text}

-- `EQUIVALENCE (I,J)`, `I=1`, `J=2`, `PRINT *,I`, `END`
unfoldable pub numbers_equivalenced : FileSet
numbers_equivalenced = one_file (main_program (
    on_card 1 (body.Equivalence (record { places = expr.Name I ∷ expr.Name J ∷ [] } ∷ [])) ∷
    on_card 2 (body.Assign (expr.Name I) (num 1)) ∷
    on_card 3 (body.Assign (expr.Name J) (num 2)) ∷
    on_card 4 (print (expr.Name I ∷ [])) ∷
    on_card 5 body.End ∷ []) ∷ [])

unfoldable pub numbers_equivalenced_setting : Setting
numbers_equivalenced_setting = record {
  homes = (record { sequence = 0; first = 0 } ∷ record { sequence = 0; first = 0 } ∷ []) ∷ [];
  sizes = 4 ∷ [];
}

-- `INTEGER J,I`, `COMMON /B/ I,J`, `I=1`, `J=2`, `CALL S`, `END`, `SUBROUTINE S`, `COMMON /B/ K,L`, `PRINT *,K,L`, `END`
unfoldable pub common_after_its_types : FileSet
common_after_its_types =
    let l : Bytes = codes "l" in
    let in_b : Bytes → Bytes → Body = λ x y.
    body.Common (record { block = Some (codes "b"); items = record { name = x; dimensions = [] } ∷ record { name = y; dimensions = [] } ∷ [] } ∷ []) in
    one_file (
    main_program (
    on_card 1 (body.Declare integer_type (scalar J ∷ scalar I ∷ [])) ∷
    on_card 2 (in_b I J) ∷
    on_card 3 (body.Assign (expr.Name I) (num 1)) ∷
    on_card 4 (body.Assign (expr.Name J) (num 2)) ∷
    on_card 5 (body.Call (codes "s") []) ∷
    on_card 6 body.End ∷ []) ∷
    subroutine (codes "s") [] (
    on_card 8 (in_b K l) ∷
    on_card 9 (print (expr.Name K ∷ expr.Name l ∷ [])) ∷
    on_card 10 body.End ∷ []) ∷ [])

unfoldable pub common_after_its_types_setting : Setting
common_after_its_types_setting = record {
  homes =
      (record { sequence = 0; first = 4 } ∷ record { sequence = 0; first = 0 } ∷ []) ∷
      (record { sequence = 0; first = 0 } ∷ record { sequence = 0; first = 4 } ∷ []) ∷ [];
  sizes = 8 ∷ [];
}

-- `PRINT *,NB(4)`, `END`, `INTEGER FUNCTION NA(K)`, `NA=K+1`, `ENTRY NB(K)`, `NB=K`, `NA=K*2`, `END`
unfoldable pub entry_that_assigns_both_names : FileSet
entry_that_assigns_both_names = one_file (
    main_program (on_card 1 (print (expr.Apply (codes "nb") (num 4 ∷ []) ∷ [])) ∷ on_card 2 body.End ∷ []) ∷
    integer_function (codes "na") (K ∷ []) (
    on_card 4 (body.Assign (expr.Name (codes "na")) (plus (expr.Name K) (num 1))) ∷
    on_card 5 (body.Entry (codes "nb") (dummy.Named K ∷ [])) ∷
    on_card 6 (body.Assign (expr.Name (codes "nb")) (expr.Name K)) ∷
    on_card 7 (body.Assign (expr.Name (codes "na")) (times (expr.Name K) (num 2))) ∷
    on_card 8 body.End ∷ []) ∷ [])

-- `CHARACTER*3 S`, `S='XYZ'`, `S='AB'`, `PRINT *,S//'!'`, `END`
unfoldable pub text_over_a_longer_one : FileSet
text_over_a_longer_one = one_file (main_program (
    on_card 1 (body.Declare (text_type 3) (scalar (codes "s") ∷ [])) ∷
    on_card 2 (body.Assign (expr.Name (codes "s")) (text (codes "XYZ"))) ∷
    on_card 3 (body.Assign (expr.Name (codes "s")) (text (codes "AB"))) ∷
    on_card 4 (print (expr.Binary op.Concatenate (expr.Name (codes "s")) (text (codes "!")) ∷ [])) ∷
    on_card 5 body.End ∷ []) ∷ [])

unfoldable pub telling_sources_opened : Unit {0}
unfolding numbers_equivalenced numbers_equivalenced_setting common_after_its_types common_after_its_types_setting entry_that_assigns_both_names text_over_a_longer_one
telling_sources_opened = tt
