-- What a transfer comes to, and in which order: formats with characters that are undefined, and internal files that share
-- storage with the items written to them. Small programs as trees, each for one worked run.
use Rattle.std.specs.Prelude.{ℕ, List, [], ◌∷◌, codes, Some, None}
use Rattle.fortran_checks.specs.f_tree.declared.expressions.Expr.{Expr}
use Rattle.fortran_checks.specs.f_tree.declared.expressions.Expr as expr
use Rattle.fortran_checks.specs.f_tree.declared.statements.Body.{Body}
use Rattle.fortran_checks.specs.f_tree.declared.statements.Body as body
use Rattle.fortran_checks.specs.f_tree.declared.statements.Stmt.{Stmt}
use Rattle.fortran_checks.specs.f_tree.declared.statements.ControlValue.TheVariants as value
use Rattle.fortran_checks.specs.f_tree.declared.statements.ControlWord.TheVariants as word
use Rattle.fortran_checks.specs.f_tree.declared.statements.Direction.TheVariants as way
use Rattle.fortran_checks.specs.f_tree.declared.statements.LengthSpec.TheVariants as length'
use Rattle.fortran_checks.specs.f_tree.declared.statements.TypeSpec.{TypeSpec}
use Rattle.fortran_checks.specs.f_tree.declared.names.Basic.TheVariants.{Character}
use Rattle.fortran_checks.specs.f_tree.declared.units.FileSet.{FileSet}
use Rattle.fortran_checks.specs.f_tree.Values.{Bytes}
use Rattle.fortran_checks.specs.f_tree.Setting.{Setting}
use Rattle.fortran_rows.specs.WorkedSources.{on_card, items, print, main_program, one_file, integer_type, num, up_to, scalar, array, K, N, text}

abbrev text_of : ℕ → TypeSpec
text_of n = record { basic = Character; length = Some (length'.Value (num n)) }

abbrev F : Expr
F = expr.Name (codes "f")

abbrev U : Expr
U = expr.Name (codes "u")

abbrev V : Expr
V = expr.Name (codes "v")

-- the first characters of F, or an element of an array
abbrev front : ℕ → Expr
front n = expr.Part F (Some (num 1)) (Some (num n))

abbrev element : Bytes → ℕ → Expr
element x n = expr.Apply x (num n ∷ [])

-- a WRITE, and one with IOSTAT=N behind which N is printed
abbrev written_to : Expr → Expr → List Expr → Body
written_to unit format es =
    body.Transfer way.Write
    (record { word = word.Unit; value = value.Value unit } ∷ record { word = word.Format; value = value.Value format } ∷ []) (items es)

abbrev asked_of : Expr → Expr → List Expr → Body
asked_of unit format es =
    body.Transfer way.Write
    (record { word = word.Unit; value = value.Value unit } ∷ record { word = word.Format; value = value.Value format } ∷
    record { word = word.Status; value = value.Value (expr.Name N) } ∷ []) (items es)

-- FORMATS. `CHARACTER*20 F`, a text in its first characters, `WRITE (6,F) 7`, `END`: with `(I3)` examples/fortran/format_in_front.f
unfoldable pub format_in_front : Bytes → ℕ → FileSet
format_in_front cs n = one_file (main_program (
    on_card 1 (body.Declare (text_of 20) (scalar (codes "f") ∷ [])) ∷
    on_card 2 (body.Assign (front n) (text cs)) ∷
    on_card 3 (written_to (num 6) F (num 7 ∷ [])) ∷
    on_card 4 body.End ∷ []) ∷ [])

-- `CHARACTER*20 F`, `F(1:2)='(Q'`, `WRITE (6,F,IOSTAT=N) 7`, `PRINT *,N`, `END`
unfoldable pub format_wrong_in_front : FileSet
format_wrong_in_front = one_file (main_program (
    on_card 1 (body.Declare (text_of 20) (scalar (codes "f") ∷ [])) ∷
    on_card 2 (body.Assign (front 2) (text (codes "(Q"))) ∷
    on_card 3 (asked_of (num 6) F (num 7 ∷ [])) ∷
    on_card 4 (print (expr.Name N ∷ [])) ∷
    on_card 5 body.End ∷ []) ∷ [])

-- `CHARACTER*20 F`, `WRITE (9,F,IOSTAT=N) 7`, `PRINT *,N`, `END`
unfoldable pub unit_before_undefined_format : FileSet
unit_before_undefined_format = one_file (main_program (
    on_card 1 (body.Declare (text_of 20) (scalar (codes "f") ∷ [])) ∷
    on_card 2 (asked_of (num 9) F (num 7 ∷ [])) ∷
    on_card 3 (print (expr.Name N ∷ [])) ∷
    on_card 4 body.End ∷ []) ∷ [])

-- examples/fortran/format_in_an_array.f
unfoldable pub format_in_an_array : FileSet
format_in_an_array = one_file (main_program (
    on_card 1 (body.Declare (text_of 2) (array (codes "f") (up_to 4 ∷ []) ∷ [])) ∷
    on_card 2 (body.Assign (element (codes "f") 1) (text (codes "(I"))) ∷
    on_card 3 (body.Assign (element (codes "f") 2) (text (codes "3)"))) ∷
    on_card 4 (written_to (num 6) F (num 7 ∷ [])) ∷
    on_card 5 body.End ∷ []) ∷ [])

-- INTERNAL FILES. `CHARACTER*2 U(3),V(3)`, `EQUIVALENCE (U(1),V(2))`, V is `uv`, `wx` and `yz`, a WRITE to U by this format, `WRITE (6,'(A2)') V`, `END`
abbrev shifted_by : Bytes → List Expr → FileSet
shifted_by format es = one_file (main_program (
    on_card 1 (body.Declare (text_of 2) (array (codes "u") (up_to 3 ∷ []) ∷ array (codes "v") (up_to 3 ∷ []) ∷ [])) ∷
    on_card 2 (body.Equivalence (record { places = element (codes "u") 1 ∷ element (codes "v") 2 ∷ [] } ∷ [])) ∷
    on_card 3 (body.Assign (element (codes "v") 1) (text (codes "uv"))) ∷
    on_card 4 (body.Assign (element (codes "v") 2) (text (codes "wx"))) ∷
    on_card 5 (body.Assign (element (codes "v") 3) (text (codes "yz"))) ∷
    on_card 6 (written_to U (text format) es) ∷
    on_card 7 (written_to (num 6) (text (codes "(A2)")) (V ∷ [])) ∷
    on_card 8 body.End ∷ []) ∷ [])

-- examples/fortran/shifted_by_reversion.f
unfoldable pub shifted_by_reversion : FileSet
shifted_by_reversion = shifted_by (codes "(A2)") (V ∷ [])

-- examples/fortran/shifted_by_slashes.f
unfoldable pub shifted_by_slashes : FileSet
shifted_by_slashes = shifted_by (codes "(A2/A2/A2)") (V ∷ [])

-- examples/fortran/shifted_by_elements.f
unfoldable pub shifted_by_elements : FileSet
shifted_by_elements = shifted_by (codes "(A2)") (element (codes "v") 1 ∷ element (codes "v") 2 ∷ element (codes "v") 3 ∷ [])

-- values in parentheses are taken before the records of their items are stored
unfoldable pub shifted_by_values : FileSet
shifted_by_values =
    shifted_by (codes "(A2)") (expr.Paren (element (codes "v") 1) ∷ expr.Paren (element (codes "v") 2) ∷ expr.Paren (element (codes "v") 3) ∷ [])

unfoldable pub shifted_setting : Setting
shifted_setting = record {
  homes = (record { sequence = 0; first = 2 } ∷ record { sequence = 0; first = 0 } ∷ []) ∷ [];
  sizes = 8 ∷ [];
}

-- `CHARACTER*2 U`, `INTEGER K(1)`, `WRITE (U,format,IOSTAT=N) ..,K`, `PRINT *,N`, `END`: K has no value, and M has none
unfoldable pub without_a_value : Bytes → List Expr → FileSet
without_a_value format es = one_file (main_program (
    on_card 1 (body.Declare (text_of 2) (scalar (codes "u") ∷ [])) ∷
    on_card 2 (body.Declare integer_type (array K (up_to 1 ∷ []) ∷ [])) ∷
    on_card 3 (asked_of U (text format) es) ∷
    on_card 4 (print (expr.Name N ∷ [])) ∷
    on_card 5 body.End ∷ []) ∷ [])

unfoldable pub course_sources_opened : Unit {0}
unfolding format_in_front format_wrong_in_front unit_before_undefined_format format_in_an_array shifted_by_reversion shifted_by_slashes shifted_by_elements shifted_by_values shifted_setting without_a_value
course_sources_opened = tt
