-- A program that takes thousands of steps, as a tree.
use Rattle.std.specs.Prelude.{[], ◌∷◌, Some}
use Rattle.fortran_checks.specs.f_tree.declared.expressions.Expr as expr
use Rattle.fortran_checks.specs.f_tree.declared.statements.Body as body
use Rattle.fortran_checks.specs.f_tree.declared.units.FileSet.{FileSet}
use Rattle.fortran_rows.specs.WorkedSources.{on_card, labelled, print, main_program, one_file, num, from_to, I, K, plus}

-- `K=0`, `DO 10 I=1,1000`, label 10 `K=K+I`, `PRINT *,K`, `END`
unfoldable pub sum_of_a_thousand : FileSet
sum_of_a_thousand = one_file (main_program (
    on_card 1 (body.Assign (expr.Name K) (num 0)) ∷
    on_card 2 (body.Do (Some 10) (from_to I (num 1) (num 1000))) ∷
    labelled 10 3 (body.Assign (expr.Name K) (plus (expr.Name K) (expr.Name I))) ∷
    on_card 4 (print (expr.Name K ∷ [])) ∷
    on_card 5 body.End ∷ []) ∷ [])
