-- Bit functions (MIL-STD-1753), lengths of texts that are not read, and places that do not hold one value of their type: small programs as
-- trees, some of them one for one those in examples/fortran.
use Rattle.std.specs.Prelude.{[], ◌∷◌, codes, List, Some, None}
use Rattle.fortran_checks.specs.f_tree.declared.expressions.Expr.{Expr}
use Rattle.fortran_checks.specs.f_tree.declared.expressions.Expr as expr
use Rattle.fortran_checks.specs.f_tree.declared.expressions.BinaryOp.TheVariants as op
use Rattle.fortran_checks.specs.f_tree.declared.names.Basic.TheVariants.{Character}
use Rattle.fortran_checks.specs.f_tree.declared.statements.Body as body
use Rattle.fortran_checks.specs.f_tree.declared.statements.LengthSpec.TheVariants as length'
use Rattle.fortran_checks.specs.f_tree.declared.units.FileSet.{FileSet}
use Rattle.fortran_checks.specs.f_tree.Values.{Bytes}
use Rattle.fortran_checks.specs.f_tree.Setting.{Setting}
use Rattle.fortran_rows.specs.WorkedSources.{on_card, print, main_program, one_file, subroutine, logical_type, num, up_to, scalar, array, I, J, K, N, minus, text_type, text, part}
use Rattle.fortran_rows.specs.LoopsSources.{written}

-- a function of one or of two values
abbrev pub of_one : Bytes → Expr → Expr
of_one f a = expr.Apply f (a ∷ [])

abbrev pub of_two : Bytes → Expr → Expr → Expr
of_two f a b = expr.Apply f (a ∷ b ∷ [])

abbrev pub joined : Expr → Expr → Expr
joined = expr.Binary op.Concatenate

-- `PRINT *,` and a list, `END`
unfoldable pub printed_values : List Expr → FileSet
printed_values es = one_file (main_program (on_card 1 (print es) ∷ on_card 2 body.End ∷ []) ∷ [])

-- `PRINT *,IOR(5,2),IAND(6,3),IEOR(6,3),NOT(0),ISHFT(1,31),ISHFT(-1,-31)`, `END`
unfoldable pub bits_by_value : FileSet
bits_by_value = printed_values (
    of_two (codes "ior") (num 5) (num 2) ∷
    of_two (codes "iand") (num 6) (num 3) ∷
    of_two (codes "ieor") (num 6) (num 3) ∷
    of_one (codes "not") (num 0) ∷
    of_two (codes "ishft") (num 1) (num 31) ∷
    of_two (codes "ishft") (expr.Minus (num 1)) (expr.Minus (num 31)) ∷ [])

-- `PRINT *,IBSET(0,3),IBCLR(9,0),BTEST(4,2)`, `END`
unfoldable pub bits_by_position : FileSet
bits_by_position = printed_values (of_two (codes "ibset") (num 0) (num 3) ∷ of_two (codes "ibclr") (num 9) (num 0) ∷ of_two (codes "btest") (num 4) (num 2) ∷ [])

-- examples/fortran/functions_of_bits.f
unfoldable pub functions_of_bits : FileSet
functions_of_bits =
    let l : Expr = expr.Name (codes "l") in
    let k : Expr = expr.Name K in
    let last : Expr = minus k (num 1) in
    one_file (main_program (
    on_card 1 (body.Declare logical_type (scalar (codes "l") ∷ [])) ∷
    on_card 2 (body.Assign (expr.Name I) (num 5)) ∷
    on_card 3 (written (codes "(6I12)") (
    of_two (codes "ior") (expr.Name I) (num 2) ∷
    of_two (codes "iand") (num 6) (num 3) ∷
    of_two (codes "ieor") (num 6) (num 3) ∷
    of_one (codes "not") (num 0) ∷
    of_two (codes "ishft") (num 1) (num 31) ∷
    of_two (codes "ishft") (expr.Minus (num 1)) (expr.Minus (num 31)) ∷ [])) ∷
    on_card 5 (body.Assign l (of_two (codes "btest") (num 4) (num 2))) ∷
    on_card 6 (written (codes "(2I12,L2)") (of_two (codes "ibset") (num 0) (num 3) ∷ of_two (codes "ibclr") (num 9) (num 0) ∷ l ∷ [])) ∷
    on_card 7 (body.Assign k (num 32)) ∷
    on_card 8 (written (codes "(5I12)") (
    of_two (codes "ishft") (expr.Minus (num 1)) k ∷
    of_two (codes "ishft") (expr.Minus (num 1)) (expr.Minus k) ∷
    of_two (codes "ishft") (expr.Minus (num 5)) (minus k (num 32)) ∷
    of_two (codes "ishft") (num 3) last ∷
    of_two (codes "ishft") (minus (expr.Minus (num 2147483647)) (num 1)) (minus (num 1) k) ∷ [])) ∷
    on_card 10 (written (codes "(5I12)") (
    of_two (codes "ior") (expr.Minus (num 8)) (num 3) ∷
    of_two (codes "iand") (expr.Minus (num 8)) (expr.Minus (num 3)) ∷
    of_two (codes "ieor") (expr.Minus (num 1)) (num 1) ∷
    of_one (codes "not") (num 2147483647) ∷
    of_one (codes "not") (expr.Minus (expr.Name I)) ∷ [])) ∷
    on_card 12 (written (codes "(2I12,3L2)") (
    of_two (codes "ibset") (num 0) last ∷
    of_two (codes "ibclr") (expr.Minus (num 1)) last ∷
    of_two (codes "btest") (expr.Minus (num 1)) last ∷
    of_two (codes "btest") (expr.Name I) (num 1) ∷
    of_two (codes "btest") (expr.Name I) (num 0) ∷ [])) ∷
    on_card 14 body.End ∷ []) ∷ [])

-- examples/fortran/length_of_a_sum_of_texts.f
unfoldable pub length_of_a_sum_of_texts : FileSet
length_of_a_sum_of_texts =
    let a : Expr = expr.Name (codes "a") in
    let b : Expr → Expr = of_one (codes "b") in
    one_file (main_program (
    on_card 1 (body.Declare (record { basic = Character; length = None }) (
    record { name = codes "a"; dimensions = []; length = Some (length'.Value (num 3)) } ∷
    record { name = codes "b"; dimensions = up_to 2 ∷ []; length = Some (length'.Value (num 4)) } ∷ [])) ∷
    on_card 2 (body.Assign (expr.Name N) (of_one (codes "len") (joined a (text (codes "X"))))) ∷
    on_card 3 (written (codes "(3I4)") (
    expr.Name N ∷
    of_one (codes "len") (joined (joined a (b (num 2))) (part (codes "a") 2 3)) ∷
    of_one (codes "len") (b (num 1)) ∷ [])) ∷
    on_card 4 body.End ∷ []) ∷ [])

-- examples/fortran/elements_longer_than_the_actual.f
unfoldable pub elements_longer_than_the_actual : FileSet
elements_longer_than_the_actual =
    let c : Expr → Expr = of_one (codes "c") in
    one_file (
    main_program (
    on_card 1 (body.Declare (text_type 3) (array (codes "c") (up_to 4 ∷ []) ∷ [])) ∷
    on_card 2 (body.Assign (c (num 1)) (text (codes "abc"))) ∷
    on_card 3 (body.Assign (c (num 2)) (text (codes "def"))) ∷
    on_card 4 (body.Assign (c (num 3)) (text (codes "ghi"))) ∷
    on_card 5 (body.Assign (c (num 4)) (text (codes "jkl"))) ∷
    on_card 6 (body.Call (codes "s") (expr.Name (codes "c") ∷ [])) ∷
    on_card 7 (written (codes "(4A4)") (expr.Name (codes "c") ∷ [])) ∷
    on_card 8 body.End ∷ []) ∷
    subroutine (codes "s") (codes "d" ∷ []) (
    on_card 10 (body.Declare (text_type 6) (array (codes "d") (up_to 2 ∷ []) ∷ [])) ∷
    on_card 11 (written (codes "(2A7)") (expr.Name (codes "d") ∷ [])) ∷
    on_card 12 (body.Assign (of_one (codes "d") (num 2)) (text (codes "mnopqr"))) ∷
    on_card 13 body.End ∷ []) ∷ [])

-- `CHARACTER*3 C(4)`, `CALL S(C)`, `END`, `SUBROUTINE S(D)`, `CHARACTER*6 D(3)`, `D(3)='x'`, `END`: the third is past the actual array
unfoldable pub longer_elements_past_the_actual : FileSet
longer_elements_past_the_actual = one_file (
    main_program (
    on_card 1 (body.Declare (text_type 3) (array (codes "c") (up_to 4 ∷ []) ∷ [])) ∷
    on_card 2 (body.Call (codes "s") (expr.Name (codes "c") ∷ [])) ∷
    on_card 3 body.End ∷ []) ∷
    subroutine (codes "s") (codes "d" ∷ []) (
    on_card 5 (body.Declare (text_type 6) (array (codes "d") (up_to 3 ∷ []) ∷ [])) ∷
    on_card 6 (body.Assign (of_one (codes "d") (num 3)) (text (codes "x"))) ∷
    on_card 7 body.End ∷ []) ∷ [])

-- `CHARACTER*4 C`, `EQUIVALENCE (C,I)`, `I=5`, `C(2:2)='x'`, `PRINT *,I`, `END`: a character within a number
unfoldable pub character_in_a_number : FileSet
character_in_a_number = one_file (main_program (
    on_card 1 (body.Declare (text_type 4) (scalar (codes "c") ∷ [])) ∷
    on_card 2 (body.Equivalence (record { places = expr.Name (codes "c") ∷ expr.Name I ∷ [] } ∷ [])) ∷
    on_card 3 (body.Assign (expr.Name I) (num 5)) ∷
    on_card 4 (body.Assign (part (codes "c") 2 2) (text (codes "x"))) ∷
    on_card 5 (print (expr.Name I ∷ [])) ∷
    on_card 6 body.End ∷ []) ∷ [])

unfoldable pub character_in_a_number_setting : Setting
character_in_a_number_setting = record {
  homes = (record { sequence = 0; first = 0 } ∷ record { sequence = 0; first = 0 } ∷ []) ∷ [];
  sizes = 4 ∷ [];
}

-- `CHARACTER*6 C`, `EQUIVALENCE (C(1:1),I),(C(3:3),J)`, `I=1`, `J=2`, a PRINT of a variable, `END`: the last half of I is the first of J
unfoldable pub numbers_that_overlap : Bytes → FileSet
numbers_that_overlap x = one_file (main_program (
    on_card 1 (body.Declare (text_type 6) (scalar (codes "c") ∷ [])) ∷
    on_card 2 (body.Equivalence (
    record { places = part (codes "c") 1 1 ∷ expr.Name I ∷ [] } ∷
    record { places = part (codes "c") 3 3 ∷ expr.Name J ∷ [] } ∷ [])) ∷
    on_card 3 (body.Assign (expr.Name I) (num 1)) ∷
    on_card 4 (body.Assign (expr.Name J) (num 2)) ∷
    on_card 5 (print (expr.Name x ∷ [])) ∷
    on_card 6 body.End ∷ []) ∷ [])

unfoldable pub numbers_that_overlap_setting : Setting
numbers_that_overlap_setting = record {
  homes = (record { sequence = 0; first = 0 } ∷ record { sequence = 0; first = 0 } ∷ record { sequence = 0; first = 2 } ∷ []) ∷ [];
  sizes = 6 ∷ [];
}

-- `CHARACTER*5 S(2)`, `S(2)='ABCDE'`, `PRINT *,S(2)(3:` and a place `)`, `END`
unfoldable pub part_of_an_element : Expr → FileSet
part_of_an_element last = one_file (main_program (
    on_card 1 (body.Declare (text_type 5) (array (codes "s") (up_to 2 ∷ []) ∷ [])) ∷
    on_card 2 (body.Assign (of_one (codes "s") (num 2)) (text (codes "ABCDE"))) ∷
    on_card 3 (print (expr.Part (of_one (codes "s") (num 2)) (Some (num 3)) (Some last) ∷ [])) ∷
    on_card 4 body.End ∷ []) ∷ [])

unfoldable pub bits_sources_opened : Unit {0}
unfolding printed_values bits_by_value bits_by_position functions_of_bits length_of_a_sum_of_texts elements_longer_than_the_actual longer_elements_past_the_actual character_in_a_number character_in_a_number_setting numbers_that_overlap numbers_that_overlap_setting part_of_an_element
bits_sources_opened = tt
