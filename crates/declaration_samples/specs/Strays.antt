-- Small programs that break a row though they would be well formed, and one whose function has no type.
use Rattle.std.specs.Prelude.{[], ◌∷◌, codes, Some}
use Rattle.declaration_rows.specs.f_tree.declared.expressions.Expr as expr
use Rattle.declaration_rows.specs.f_tree.declared.statements.Body as body
use Rattle.declaration_rows.specs.f_tree.declared.statements.UpperBound.TheVariants as upper
use Rattle.declaration_rows.specs.f_tree.declared.units.FileSet.{FileSet}
use Rattle.fortran_rows.specs.WorkedSources.{on_card, main_program, one_file, integer_type, num, array, from_to, I, J}

-- `DO 10 I=1,2`, `DO 20 J=1,2`, `10 CONTINUE`, `20 CONTINUE`, `END`
unfoldable pub ranges_that_cross : FileSet
ranges_that_cross = one_file (main_program (
    on_card 1 (body.Do (Some 10) (from_to I (num 1) (num 2))) ∷
    on_card 2 (body.Do (Some 20) (from_to J (num 1) (num 2))) ∷
    record (on_card 3 body.Continue) { label = Some 10 } ∷
    record (on_card 4 body.Continue) { label = Some 20 } ∷
    on_card 5 body.End ∷ []) ∷ [])

-- `10 CONTINUE`, `10 CONTINUE`, `END`
unfoldable pub label_twice : FileSet
label_twice = one_file (main_program (
    record (on_card 1 body.Continue) { label = Some 10 } ∷
    record (on_card 2 body.Continue) { label = Some 10 } ∷
    on_card 3 body.End ∷ []) ∷ [])

-- `INTEGER I(5:1)`, `END`
unfoldable pub array_without_elements : FileSet
array_without_elements = one_file (main_program (
    on_card 1 (body.Declare integer_type (array I (record { lower = Some (num 5); upper = upper.Value (num 1) } ∷ []) ∷ [])) ∷
    on_card 2 body.End ∷ []) ∷ [])

-- `I=X(1)`, `END`: X would be a function of type REAL
unfoldable pub function_without_type : FileSet
function_without_type = one_file (main_program (
    on_card 1 (body.Assign (expr.Name I) (expr.Apply (codes "x") (num 1 ∷ []))) ∷
    on_card 2 body.End ∷ []) ∷ [])

unfoldable pub strays_opened : Unit {0}
unfolding ranges_that_cross label_twice array_without_elements function_without_type
strays_opened = tt
