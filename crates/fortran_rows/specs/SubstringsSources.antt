-- Substrings: references in the places of one that is assigned, one that is passed, one that is an item or a file, and places
-- that are out of bounds: small programs as trees. One that names a file stands in examples/fortran too.
use Rattle.std.specs.Prelude.{ℕ, [], ◌∷◌, codes, Some, None}
use Rattle.fortran_checks.specs.f_tree.declared.expressions.Expr.{Expr}
use Rattle.fortran_checks.specs.f_tree.declared.expressions.Expr as expr
use Rattle.fortran_checks.specs.f_tree.declared.statements.Body.{Body}
use Rattle.fortran_checks.specs.f_tree.declared.statements.Body as body
use Rattle.fortran_checks.specs.f_tree.declared.statements.ListItem as item
use Rattle.fortran_checks.specs.f_tree.declared.statements.Control.{Control}
use Rattle.fortran_checks.specs.f_tree.declared.statements.ControlValue.TheVariants as value
use Rattle.fortran_checks.specs.f_tree.declared.statements.ControlWord.{ControlWord}
use Rattle.fortran_checks.specs.f_tree.declared.statements.ControlWord.TheVariants as word
use Rattle.fortran_checks.specs.f_tree.declared.statements.AuxiliaryKind.TheVariants as auxiliary
use Rattle.fortran_checks.specs.f_tree.declared.statements.Direction.TheVariants as way
use Rattle.fortran_checks.specs.f_tree.declared.units.FileSet.{FileSet}
use Rattle.fortran_checks.specs.f_tree.Setting.{Setting}
use Rattle.fortran_rows.specs.WorkedSources.{on_card, print, main_program, one_file, integer_function, subroutine, num, up_to, scalar, array, K, M, times, text_type, text, part}

abbrev pub S : Expr
S = expr.Name (codes "s")

abbrev pub T : Expr
T = expr.Name (codes "t")

-- a part of S, by its first place and its last
abbrev pub part_from : Expr → Expr → Expr
part_from first last = expr.Part S (Some first) (Some last)

-- `CHARACTER*3 S,T`, `COMMON /B/ T`, `T='ABC'`, `S(NF(1):3)=T`, `PRINT *,S`, `END`,
-- `INTEGER FUNCTION NF(K)`, `CHARACTER*3 T`, `COMMON /B/ T`, `T='XYZ'`, `NF=1`, `END`
unfoldable pub right_side_before_a_function : FileSet
right_side_before_a_function =
    let in_b : Body = body.Common (record { block = Some (codes "b"); items = record { name = codes "t"; dimensions = [] } ∷ [] } ∷ []) in
    one_file (
    main_program (
    on_card 1 (body.Declare (text_type 3) (scalar (codes "s") ∷ scalar (codes "t") ∷ [])) ∷
    on_card 2 in_b ∷
    on_card 3 (body.Assign T (text (codes "ABC"))) ∷
    on_card 4 (body.Assign (part_from (expr.Apply (codes "nf") (num 1 ∷ [])) (num 3)) T) ∷
    on_card 5 (print (S ∷ [])) ∷
    on_card 6 body.End ∷ []) ∷
    integer_function (codes "nf") (K ∷ []) (
    on_card 8 (body.Declare (text_type 3) (scalar (codes "t") ∷ [])) ∷
    on_card 9 in_b ∷
    on_card 10 (body.Assign T (text (codes "XYZ"))) ∷
    on_card 11 (body.Assign (expr.Name (codes "nf")) (num 1)) ∷
    on_card 12 body.End ∷ []) ∷ [])

unfoldable pub right_side_before_a_function_setting : Setting
right_side_before_a_function_setting = record {
  homes = (record { sequence = 0; first = 0 } ∷ record { sequence = 1; first = 0 } ∷ []) ∷ (record { sequence = 1; first = 0 } ∷ []) ∷ [];
  sizes = 3 ∷ 3 ∷ [];
}

-- `CHARACTER*3 S,T`, `NSQ(K)=K*K`, and an assignment to a variable, one to a part of S from NSQ(1) to a place, `PRINT *,S`, `END`
unfoldable pub from_a_square : Expr → Expr → Expr → Expr → FileSet
from_a_square variable value last right = one_file (main_program (
    on_card 1 (body.Declare (text_type 3) (scalar (codes "s") ∷ scalar (codes "t") ∷ [])) ∷
    on_card 2 (body.Assign (expr.Apply (codes "nsq") (expr.Name K ∷ [])) (times (expr.Name K) (expr.Name K))) ∷
    on_card 3 (body.Assign variable value) ∷
    on_card 4 (body.Assign (part_from (expr.Apply (codes "nsq") (num 1 ∷ [])) last) right) ∷
    on_card 5 (print (S ∷ [])) ∷
    on_card 6 body.End ∷ []) ∷ [])

-- `S='ABC'`, `S(NSQ(1):2)=S(2:3)`: the right side is kept, so a position may be defined and referenced
unfoldable pub right_side_before_a_statement_function : FileSet
right_side_before_a_statement_function = from_a_square S (text (codes "ABC")) (num 2) (part (codes "s") 2 3)

-- `T(1:1)='A'`, `S(NSQ(1):1)=T`: the right side is referenced whole
unfoldable pub right_side_without_its_end : FileSet
right_side_without_its_end = from_a_square (part (codes "t") 1 1) (text (codes "A")) (num 1) T

-- `CHARACTER*3 A(2)`, `DATA A/'abc','def'/`, `CALL S(A(1)(2:3))`, `END`, `SUBROUTINE S(B)`, `CHARACTER*2 B` with so many elements, and the list
-- of a PRINT, `END`
unfoldable pub part_passed : ℕ → Expr → FileSet
part_passed size listed = one_file (
    main_program (
    on_card 1 (body.Declare (text_type 3) (array (codes "a") (up_to 2 ∷ []) ∷ [])) ∷
    on_card 2 (body.Init (record {
      places = item.Item (expr.Name (codes "a")) ∷ [];
      values = record { count = None; value = text (codes "abc") } ∷ record { count = None; value = text (codes "def") } ∷ [];
    } ∷ [])) ∷
    on_card 3 (body.Call (codes "s") (expr.Part (expr.Apply (codes "a") (num 1 ∷ [])) (Some (num 2)) (Some (num 3)) ∷ [])) ∷
    on_card 4 body.End ∷ []) ∷
    subroutine (codes "s") (codes "b" ∷ []) (
    on_card 6 (body.Declare (text_type 2) (array (codes "b") (up_to size ∷ []) ∷ [])) ∷
    on_card 7 (print (listed ∷ [])) ∷
    on_card 8 body.End ∷ []) ∷ [])

-- examples/fortran/part_that_begins_an_array.f
unfoldable pub part_that_begins_an_array : FileSet
part_that_begins_an_array = part_passed 2 (expr.Apply (codes "b") (num 2 ∷ []))

-- `CHARACTER*2 B(3)`, `PRINT *,B(3)`
unfoldable pub element_past_the_end : FileSet
element_past_the_end = part_passed 3 (expr.Apply (codes "b") (num 3 ∷ []))

-- `CHARACTER*2 B(3)`, `PRINT *,B`
unfoldable pub array_past_the_end : FileSet
array_past_the_end = part_passed 3 (expr.Name (codes "b"))

-- examples/fortran/parts_that_are_one_item.f
unfoldable pub parts_that_are_one_item : FileSet
parts_that_are_one_item =
    let part_of_a : ℕ → ℕ → ℕ → Expr = λ i first last. expr.Part (expr.Apply (codes "a") (num i ∷ [])) (Some (num first)) (Some (num last)) in
    let in_word : ControlWord → Expr → Control = λ x e. record { word = x; value = value.Value e } in
    let star : Control = record { word = word.Unit; value = value.Star } in
    one_file (main_program (
    on_card 1 (body.Declare (text_type 3) (array (codes "a") (up_to 2 ∷ []) ∷ scalar (codes "c") ∷ [])) ∷
    on_card 2 (body.Init (
    record {
      places = item.Item (expr.Name (codes "a")) ∷ [];
      values = record { count = None; value = text (codes "abc") } ∷ record { count = None; value = text (codes "def") } ∷ [];
    } ∷
    record {
      places = item.Item (part (codes "c") 2 3) ∷ item.Item (part (codes "c") 1 1) ∷ [];
      values = record { count = None; value = text (codes "uv") } ∷ record { count = None; value = text (codes "t") } ∷ [];
    } ∷ [])) ∷
    on_card 3 (body.Transfer way.Read (star ∷ record { word = word.Format; value = value.Star } ∷ []) (item.Item (part_of_a 1 2 3) ∷ [])) ∷
    on_card 4 (body.Transfer way.Read (in_word word.Unit (part_of_a 1 1 1) ∷ record { word = word.Format; value = value.Star } ∷ in_word word.Status (expr.Name K) ∷ [])
    (item.Item (part (codes "c") 1 1) ∷ item.Item (part (codes "c") 2 2) ∷ [])) ∷
    on_card 5 (body.Auxiliary auxiliary.OpenUnit (in_word word.Unit (num 7) ∷ in_word word.File (part_of_a 2 1 1) ∷ in_word word.Status (expr.Name M) ∷ [])) ∷
    on_card 6 (body.Transfer way.Write (star ∷ in_word word.Format (text (codes "(2A,1X,A,2I3)")) ∷ [])
    (item.Item (expr.Name (codes "a")) ∷ item.Item (expr.Name (codes "c")) ∷ item.Item (expr.Name K) ∷ item.Item (expr.Name M) ∷ [])) ∷
    on_card 7 body.End ∷ []) ∷ [])

-- `CHARACTER*5 S`, a part of S in the list of a PRINT, `END`
unfoldable pub part_of_five : ℕ → ℕ → FileSet
part_of_five first last = one_file (main_program (
    on_card 1 (body.Declare (text_type 5) (scalar (codes "s") ∷ [])) ∷
    on_card 2 (print (part (codes "s") first last ∷ [])) ∷
    on_card 3 body.End ∷ []) ∷ [])

unfoldable pub substrings_sources_opened : Unit {0}
unfolding right_side_before_a_function right_side_before_a_function_setting from_a_square right_side_before_a_statement_function right_side_without_its_end part_passed part_that_begins_an_array element_past_the_end array_past_the_end parts_that_are_one_item part_of_five
substrings_sources_opened = tt
