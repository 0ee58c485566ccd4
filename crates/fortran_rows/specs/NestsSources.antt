-- Loops that are not nested, and branches into a range: small programs as trees. Of a set, its first unit.
use Rattle.std.specs.Prelude.{[], ◌∷◌, List, Some, None}
use Rattle.fortran_checks.specs.f_tree.declared.expressions.Expr as expr
use Rattle.fortran_checks.specs.f_tree.declared.statements.Body.{Body}
use Rattle.fortran_checks.specs.f_tree.declared.statements.Body as body
use Rattle.fortran_checks.specs.f_tree.declared.units.FileSet.{FileSet}
use Rattle.fortran_checks.specs.f_tree.Attributes.{no_program}
use Rattle.fortran_checks.specs.f_tree.Facts.{ProgramUnit}
use Rattle.fortran_checks.specs.f_tree.Meaning.{units_of}
use Rattle.fortran_checks.specs.f_tree.Runs.{no_options}
use Rattle.fortran_rows.specs.WorkedSources.{on_card, labelled, print, main_program, one_file, num, from_to, I, J}

unfoldable pub first_of : List ProgramUnit → ProgramUnit
first_of [] = no_program
first_of (u ∷ us) = u

unfoldable pub first_unit : FileSet → ProgramUnit
first_unit set = first_of (units_of no_options set)

-- `DO 10 I=1,2`, `DO 20 J=1,2`, label 10 `CONTINUE`, label 20 `CONTINUE`, `END`
unfoldable pub ranges_that_cross : FileSet
ranges_that_cross = one_file (main_program (
    on_card 1 (body.Do (Some 10) (from_to I (num 1) (num 2))) ∷
    on_card 2 (body.Do (Some 20) (from_to J (num 1) (num 2))) ∷
    labelled 10 3 body.Continue ∷
    labelled 20 4 body.Continue ∷
    on_card 5 body.End ∷ []) ∷ [])

-- `DO 10 I=1,2`, `DO J=1,2`, label 10 `CONTINUE`, `END DO`, `END`
unfoldable pub range_past_its_outer_one : FileSet
range_past_its_outer_one = one_file (main_program (
    on_card 1 (body.Do (Some 10) (from_to I (num 1) (num 2))) ∷
    on_card 2 (body.Do None (from_to J (num 1) (num 2))) ∷
    labelled 10 3 body.Continue ∷
    on_card 4 body.EndDo ∷
    on_card 5 body.End ∷ []) ∷ [])

-- label 10 `CONTINUE`, `DO 10 I=1,2`, `END`
unfoldable pub terminal_before_its_loop : FileSet
terminal_before_its_loop = one_file (main_program (
    labelled 10 1 body.Continue ∷
    on_card 2 (body.Do (Some 10) (from_to I (num 1) (num 2))) ∷
    on_card 3 body.End ∷ []) ∷ [])

-- `DO 10 I=1,2`, label 10 a DO of J or a DO WHILE with the label 20, label 20 `CONTINUE`, `END`
unfoldable pub loop_that_ends_with : Body → FileSet
loop_that_ends_with inner = one_file (main_program (
    on_card 1 (body.Do (Some 10) (from_to I (num 1) (num 2))) ∷
    labelled 10 2 inner ∷
    labelled 20 3 body.Continue ∷
    on_card 4 body.End ∷ []) ∷ [])

-- `DO I=1,2`, `PRINT *,I`, `END`
unfoldable pub loop_without_its_end_do : FileSet
loop_without_its_end_do = one_file (main_program (
    on_card 1 (body.Do None (from_to I (num 1) (num 2))) ∷
    on_card 2 (print (expr.Name I ∷ [])) ∷
    on_card 3 body.End ∷ []) ∷ [])

unfoldable pub nests_sources_opened : Unit {0}
unfolding first_of first_unit ranges_that_cross range_past_its_outer_one terminal_before_its_loop loop_that_ends_with loop_without_its_end_do
nests_sources_opened = tt
