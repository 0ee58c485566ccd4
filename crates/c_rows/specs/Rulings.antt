-- Programs that tell apart readings of the C meaning: order of operands and faults, kinds of values, and whose
-- name a fault has.
use Rattle.std.specs.Prelude.{ℕ, List, [], ◌∷◌, ◌++◌, None, true, codes}
use Rattle.c_tree.specs.declared.types.NumberType.TheVariants as number
use Rattle.c_tree.specs.declared.types.ResultType.TheVariants as result
use Rattle.c_tree.specs.declared.types.FunctionType.TheVariants as function_type
use Rattle.c_tree.specs.declared.types.ParameterType.TheVariants as parameter
use Rattle.c_tree.specs.declared.types.CastType.{CastType}
use Rattle.c_tree.specs.declared.types.CastType.TheVariants as to
use Rattle.c_tree.specs.declared.expression.UnaryOp.TheVariants as prefix
use Rattle.c_tree.specs.declared.expression.BinaryOp.TheVariants as op
use Rattle.c_tree.specs.declared.expression.CExpr.{CExpr}
use Rattle.c_tree.specs.declared.expression.CExpr.TheVariants as expr
use Rattle.c_tree.specs.declared.expression.CCall.{CCall}
use Rattle.c_tree.specs.declared.statement.CStmt.{CStmt}
use Rattle.c_tree.specs.declared.statement.CStmt.TheVariants as stmt
use Rattle.c_tree.specs.declared.declaration.CLocal.{CLocal}
use Rattle.c_tree.specs.declared.declaration.CLocal.TheVariants as local
use Rattle.c_tree.specs.declared.file.CFile.{CFile}
use Rattle.c_tree.specs.declared.file.CFunction.{CFunction}
use Rattle.c_rows.specs.RowTexts.{call, address, output_list, return_zero, name, whole_number, set, do_call, extern_int, function_named, file_of, body_with, printed, printing_with, two_integers}

-- the value of an expression, once `i__2` has a value, printed
abbrev pub prints : ℕ → CExpr → List CFile
prints second value =
    printing_with [] [] (set (codes "i__2") (whole_number second) ∷ set (codes "i__1") value ∷ printed (codes "i__1"))

-- `i__1 = value;`
abbrev pub values : CExpr → List CFile
values value = body_with [] (set (codes "i__1") value ∷ [])

abbrev pub equal : CExpr → CExpr → CExpr
equal left right = expr.Binary op.Equal left right

abbrev pub zero_quotient : CExpr
zero_quotient = expr.Binary op.Divide (whole_number 1) (whole_number 0)

abbrev pub second_address : CExpr
second_address = address (codes "i__2")

-- `*pointer`
abbrev pub read : CExpr → CExpr
read pointer = expr.Unary prefix.Deref pointer

abbrev pub byte_pointer : CExpr → CExpr
byte_pointer pointer = expr.Cast to.UnsignedChars pointer

abbrev pub null : CastType → CExpr
null type = expr.Cast type (whole_number 0)

-- `static integer a[2];`
abbrev pub two_elements : CLocal
two_elements = local.StaticNumbers number.Integer (codes "a") 2 None

-- `a[2]`
abbrev pub past_the_elements : CExpr
past_the_elements = expr.Index (name (codes "a")) (whole_number 2)

-- `a[2] = 1 / 0;`
abbrev pub fault_before_store : List CFile
fault_before_store = body_with (two_elements ∷ []) (stmt.Set past_the_elements zero_quotient ∷ [])

-- the main program and a second function
abbrev pub with_second : CFunction → List CLocal → List CStmt → List CFile
with_second second locals statements =
    file_of
    (function_named (codes "MAIN__") (two_integers ++ locals) (statements ++ return_zero ∷ []) ∷ second ∷ [])
    ∷ []

abbrev pub f : CCall
f = call (codes "f_") []

-- `int f_(void) { return 0; }`
abbrev pub returning_zero : CFunction
returning_zero = function_named (codes "f_") [] (return_zero ∷ [])

-- `VOID f_(void) { ; }`
abbrev pub giving_nothing : CFunction
giving_nothing = record {
  result = result.Void;
  name = codes "f_";
  params = [];
  locals = [];
  body = stmt.Empty ∷ [];
}

-- `int f_(S_fp g) { (*g)(); return 0; }`
abbrev pub calling_through : CFunction
calling_through = record {
  result = result.Int;
  name = codes "f_";
  params = record { of = parameter.Function function_type.Subroutine; name = codes "g" } ∷ [];
  locals = [];
  body = stmt.Call (record { through = true; name = codes "g"; arguments = [] }) ∷ return_zero ∷ [];
}

-- `a[2] = f_();`
abbrev pub stores_answer_outside : List CFile
stores_answer_outside =
    with_second returning_zero (two_elements ∷ extern_int (codes "f_") ∷ []) (stmt.SetCall past_the_elements f ∷ [])

-- `i__1 = f_();`, where `f_` gives nothing
abbrev pub uses_no_value : List CFile
uses_no_value = with_second giving_nothing (extern_int (codes "f_") ∷ []) (stmt.SetCall (name (codes "i__1")) f ∷ [])

-- `f_(function);`, where `f_` calls its parameter
abbrev pub passes : CExpr → List CLocal → List CFile
passes function locals =
    with_second calling_through (extern_int (codes "f_") ∷ locals) (do_call (codes "f_") (function ∷ []) ∷ [])

abbrev pub passes_null : List CFile
passes_null = passes (null (to.Function function_type.Subroutine)) []

abbrev pub passes_library_function : List CFile
passes_library_function =
    passes
    (expr.Cast (to.Function function_type.Unknown) (name (codes "e_wsle")))
    (extern_int (codes "e_wsle") ∷ [])

-- `f_(1);`, where `f_` takes a function
abbrev pub passes_number : List CFile
passes_number = passes (whole_number 1) []

-- `i__1 = s_stop_less(..)`: the value of a library function that gives none
abbrev pub uses_copy : List CFile
uses_copy =
    body_with
    (extern_int (codes "s_copy") ∷ [])
    (stmt.SetCall
    (name (codes "i__1"))
    (call
    (codes "s_copy")
    (expr.Cast to.Chars second_address ∷ expr.Str (codes "AB") ∷ whole_number 2 ∷ whole_number 2 ∷ []))
    ∷ [])

-- `MAIN__(1);`
abbrev pub calls_itself_with_a_number : List CFile
calls_itself_with_a_number =
    body_with (extern_int (codes "MAIN__") ∷ []) (do_call (codes "MAIN__") (whole_number 1 ∷ []) ∷ [])

-- `io___1.field = value;`
abbrev pub sets_field : List ℕ → CExpr → List CFile
sets_field field value = body_with (output_list ∷ []) (stmt.Set (expr.Field (name (codes "io___1")) field) value ∷ [])

-- `io___1.ciunit = 9;`, and the field printed
abbrev pub reads_field_back : List CFile
reads_field_back =
    printing_with
    []
    []
    (stmt.Set (expr.Field (name (codes "io___1")) (codes "ciend")) (whole_number 9)
    ∷ set (codes "i__1") (expr.Field (name (codes "io___1")) (codes "ciend"))
    ∷ printed (codes "i__1"))

-- `*(unsigned char *)&i__1 = 300;`, once `i__1` is 0
abbrev pub stores_low_bits : List CFile
stores_low_bits =
    printing_with
    []
    []
    (set (codes "i__1") (whole_number 0)
    ∷ stmt.Set (read (byte_pointer (address (codes "i__1")))) (whole_number 300)
    ∷ printed (codes "i__1"))

-- a function that keeps a pointer to its automatic `x` in a list that lasts, and at its second call reads through
-- the pointer before it sets `x`
abbrev pub keeping_pointer : CFunction
keeping_pointer =
    function_named
    (codes "f_")
    (local.Number number.Integer (codes "x") ∷ local.StaticNumber number.Integer (codes "k") None ∷ output_list ∷ [])
    (stmt.If
    (equal (name (codes "k")) (whole_number 1))
    (set (codes "k") (read (expr.Cast to.Integers (expr.Field (name (codes "io___1")) (codes "cifmt")))) ∷ [])
    None
    ∷ set (codes "x") (whole_number 7)
    ∷ stmt.Set (expr.Field (name (codes "io___1")) (codes "cifmt")) (expr.Cast to.Chars (address (codes "x")))
    ∷ set (codes "k") (whole_number 1)
    ∷ return_zero
    ∷ [])

abbrev pub reads_old_automatic : List CFile
reads_old_automatic =
    with_second keeping_pointer (extern_int (codes "f_") ∷ []) (stmt.Call f ∷ stmt.Call f ∷ [])
