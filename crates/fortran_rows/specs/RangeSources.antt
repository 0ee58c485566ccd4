-- Elements and substrings out of their declared bounds: small programs as trees, and what is told of their runs.
use Rattle.std.specs.Prelude.{◌≡◌, ℕ, suc, [], ◌∷◌, codes, Some, None}
use Rattle.fortran_checks.specs.run_state.Endings.{Report}
use Rattle.fortran_checks.specs.f_tree.declared.expressions.Expr.{Expr}
use Rattle.fortran_checks.specs.f_tree.declared.expressions.Expr as expr
use Rattle.fortran_checks.specs.f_tree.declared.statements.Body as body
use Rattle.fortran_checks.specs.f_tree.declared.statements.DummyArgument.TheVariants as dummy
use Rattle.fortran_checks.specs.f_tree.declared.units.FileSet.{FileSet}
use Rattle.fortran_checks.specs.f_tree.Values.{Act}
use Rattle.fortran_checks.specs.f_tree.Meaning.{units_of}
use Rattle.fortran_checks.specs.f_tree.RangeActs.{IsFirstRangeAct, range}
use Rattle.fortran_checks.specs.f_tree.Runs.{no_options, setting_apart, standard_units, MeetsApart}
use Rattle.fortran_rows.specs.WorkedSources.{on_card, print, main_program, one_file, subroutine, integer_type, text_type, num, up_to, scalar, array, I, J, K, N, plus, text}

-- the run of a set whose names stand apart, which reads nothing, reports a place out of bounds at step n + 1
pub record Reports (set : FileSet) (n : ℕ) (report : Report) : Type 0 where
  pub first : IsFirstRangeAct (setting_apart (units_of no_options set)) (units_of no_options set) (standard_units []) n report
  pub computed : range (setting_apart (units_of no_options set)) (units_of no_options set) (standard_units []) (suc n) ≡ Some report

-- it reports none, and meets another act at step n + 1
pub record ReportsNone (set : FileSet) (n : ℕ) (act : Act) : Type 0 where
  pub meets : MeetsApart no_options set [] n act
  pub none : range (setting_apart (units_of no_options set)) (units_of no_options set) (standard_units []) (suc n) ≡ None

abbrev pub a_at : Expr → Expr
a_at e = expr.Apply (codes "a") (e ∷ [])

-- `INTEGER A(3)`, `I=4`, `A(I)=1`, `END`
unfoldable pub element_past_three : FileSet
element_past_three = one_file (main_program (
    on_card 1 (body.Declare integer_type (array (codes "a") (up_to 3 ∷ []) ∷ [])) ∷
    on_card 2 (body.Assign (expr.Name I) (num 4)) ∷
    on_card 3 (body.Assign (a_at (expr.Name I)) (num 1)) ∷
    on_card 4 body.End ∷ []) ∷ [])

-- `INTEGER A(2,2)`, `I=3`, `A(2,2)=6`, `PRINT *,A(I,1)`, `END`: the element would lie within the array
unfoldable pub first_subscript_past_two : FileSet
first_subscript_past_two =
    let a : Expr → Expr → Expr = λ i j. expr.Apply (codes "a") (i ∷ j ∷ []) in
    one_file (main_program (
    on_card 1 (body.Declare integer_type (array (codes "a") (up_to 2 ∷ up_to 2 ∷ []) ∷ [])) ∷
    on_card 2 (body.Assign (expr.Name I) (num 3)) ∷
    on_card 3 (body.Assign (a (num 2) (num 2)) (num 6)) ∷
    on_card 4 (print (a (expr.Name I) (num 1) ∷ [])) ∷
    on_card 5 body.End ∷ []) ∷ [])

-- `INTEGER A(2)`, `J=2147483647`, `I=9`, `K=J+1+A(I)`, `END`: the sum comes before the element
unfoldable pub overflow_before_an_element : FileSet
overflow_before_an_element = one_file (main_program (
    on_card 1 (body.Declare integer_type (array (codes "a") (up_to 2 ∷ []) ∷ [])) ∷
    on_card 2 (body.Assign (expr.Name J) (num 2147483647)) ∷
    on_card 3 (body.Assign (expr.Name I) (num 9)) ∷
    on_card 4 (body.Assign (expr.Name K) (plus (plus (expr.Name J) (num 1)) (a_at (expr.Name I)))) ∷
    on_card 5 body.End ∷ []) ∷ [])

-- `CHARACTER*5 S`, `I=0`, `S='ABCDE'`, `PRINT *,S(I:3)`, `END`
unfoldable pub part_from_zero : FileSet
part_from_zero = one_file (main_program (
    on_card 1 (body.Declare (text_type 5) (scalar (codes "s") ∷ [])) ∷
    on_card 2 (body.Assign (expr.Name I) (num 0)) ∷
    on_card 3 (body.Assign (expr.Name (codes "s")) (text (codes "ABCDE"))) ∷
    on_card 4 (print (expr.Part (expr.Name (codes "s")) (Some (expr.Name I)) (Some (num 3)) ∷ [])) ∷
    on_card 5 body.End ∷ []) ∷ [])

-- `CALL T(5)`, `END`, `SUBROUTINE S`, `INTEGER A(3)`, `ENTRY T(N)`, `A(N)=1`, `END`: the unit is S, by whichever entry it was called
unfoldable pub element_behind_an_entry : FileSet
element_behind_an_entry = one_file (
    main_program (on_card 1 (body.Call (codes "t") (num 5 ∷ [])) ∷ on_card 2 body.End ∷ []) ∷
    subroutine (codes "s") [] (
    on_card 4 (body.Declare integer_type (array (codes "a") (up_to 3 ∷ []) ∷ [])) ∷
    on_card 5 (body.Entry (codes "t") (dummy.Named N ∷ [])) ∷
    on_card 6 (body.Assign (a_at (expr.Name N)) (num 1)) ∷
    on_card 7 body.End ∷ []) ∷ [])

unfoldable pub range_sources_opened : Unit {0}
unfolding element_past_three first_subscript_past_two overflow_before_an_element part_from_zero element_behind_an_entry
range_sources_opened = tt
