-- Programs that are faults, each by one way of the fault; and whose name it has.
use Rattle.std.specs.Prelude.{◌≡◌, ℕ, [], ◌∷◌, Some, None, codes}
use Rattle.c_tree.specs.declared.types.NumberType.TheVariants as number
use Rattle.c_tree.specs.declared.types.ResultType.TheVariants as result
use Rattle.c_tree.specs.declared.types.ParameterType.TheVariants as parameter
use Rattle.c_tree.specs.declared.types.ArgumentType.TheVariants as argument
use Rattle.c_tree.specs.declared.types.CastType.TheVariants as to
use Rattle.c_tree.specs.declared.expression.UnaryOp.TheVariants as prefix
use Rattle.c_tree.specs.declared.expression.BinaryOp.TheVariants as op
use Rattle.c_tree.specs.declared.expression.CExpr.TheVariants as expr
use Rattle.c_tree.specs.declared.statement.CNext.TheVariants as next
use Rattle.c_tree.specs.declared.statement.CStmt.TheVariants as stmt
use Rattle.c_tree.specs.declared.declaration.CLocal.TheVariants as local
use Rattle.c_tree.specs.declared.file.CFile.{CFile}
use Rattle.c_tree.specs.declared.outcome.CFault.{CFault}
use Rattle.c_tree.specs.Meaning.{meaning, outcome, Fault}
use Rattle.c_rows.specs.RowTexts.{call, address, output_list, return_zero, name, whole_number, set, do_call, integer, extern_int, function_named, file_of, no_units}
use Rattle.c_rows.specs.CPrograms.{case}

-- within twenty steps the file's program has this fault in the function of this number
abbrev pub FaultsIn : CFile → CFault → ℕ → Type 0
FaultsIn file fault function = outcome (meaning (file ∷ []) no_units 20) ≡ Fault fault function

-- `-(-2147483647 - 1)`
abbrev pub least_negated : CFile
least_negated =
    file_of (function_named (codes "MAIN__")
    (integer (codes "i__1")
    ∷ integer (codes "i__2") ∷ [])
    (set (codes "i__1") (expr.Unary prefix.Minus (expr.Binary op.Subtract (expr.Unary prefix.Minus
    (whole_number 2147483647)) (whole_number 1)))
    ∷ return_zero ∷ []) ∷ [])

-- `abs(-2147483647 - 1)`
abbrev pub least_magnitude : CFile
least_magnitude =
    file_of (function_named (codes "MAIN__")
    (integer (codes "i__1")
    ∷ integer (codes "i__2") ∷ [])
    (set (codes "i__1") (expr.Abs (expr.Binary op.Subtract (expr.Unary prefix.Minus (whole_number
    2147483647)) (whole_number 1)))
    ∷ return_zero ∷ []) ∷ [])

-- `(-2147483647 - 1) % -1`
abbrev pub least_remainder : CFile
least_remainder =
    file_of (function_named (codes "MAIN__")
    (integer (codes "i__1")
    ∷ integer (codes "i__2") ∷ [])
    (set (codes "i__1") (expr.Binary op.Remainder (expr.Binary op.Subtract (expr.Unary prefix.Minus
    (whole_number 2147483647)) (whole_number 1)) (expr.Unary prefix.Minus (whole_number 1)))
    ∷ return_zero ∷ []) ∷ [])

-- `(-2147483647 - 1) / -1`
abbrev pub least_quotient : CFile
least_quotient =
    file_of (function_named (codes "MAIN__")
    (integer (codes "i__1")
    ∷ integer (codes "i__2") ∷ [])
    (set (codes "i__1") (expr.Binary op.Divide (expr.Binary op.Subtract (expr.Unary prefix.Minus
    (whole_number 2147483647)) (whole_number 1)) (expr.Unary prefix.Minus (whole_number 1)))
    ∷ return_zero ∷ []) ∷ [])

-- `65536 * 32768`
abbrev pub great_product : CFile
great_product =
    file_of (function_named (codes "MAIN__")
    (integer (codes "i__1")
    ∷ integer (codes "i__2") ∷ [])
    (set (codes "i__1") (expr.Binary op.Multiply (whole_number 65536) (whole_number 32768))
    ∷ return_zero ∷ []) ∷ [])

-- `-2147483647 - 2`
abbrev pub small_difference : CFile
small_difference =
    file_of (function_named (codes "MAIN__")
    (integer (codes "i__1")
    ∷ integer (codes "i__2") ∷ [])
    (set (codes "i__1") (expr.Binary op.Subtract (expr.Unary prefix.Minus (whole_number 2147483647))
    (whole_number 2))
    ∷ return_zero ∷ []) ∷ [])

-- `++i__1` of the greatest number
abbrev pub counted_too_far : CFile
counted_too_far =
    file_of (function_named (codes "MAIN__")
    (integer (codes "i__1")
    ∷ integer (codes "i__2") ∷ [])
    (stmt.For (name (codes "i__1")) (whole_number 2147483647) (expr.Binary op.Greater (name
    (codes "i__1")) (whole_number 0)) (next.Up (name (codes "i__1"))) []
    ∷ return_zero ∷ []) ∷ [])

-- `1 % 0`
abbrev pub zero_remainder : CFile
zero_remainder =
    file_of (function_named (codes "MAIN__")
    (integer (codes "i__1")
    ∷ integer (codes "i__2") ∷ [])
    (set (codes "i__1") (expr.Binary op.Remainder (whole_number 1) (whole_number 0))
    ∷ return_zero ∷ []) ∷ [])

-- a byte of an automatic number
abbrev pub unset_byte : CFile
unset_byte =
    file_of (function_named (codes "MAIN__")
    (integer (codes "i__1")
    ∷ integer (codes "i__2") ∷ [])
    (set (codes "i__1") (expr.Unary prefix.Deref (expr.Cast to.UnsignedChars (address
    (codes "i__2"))))
    ∷ return_zero ∷ []) ∷ [])

-- an element of an `address` array
abbrev pub unset_address : CFile
unset_address =
    file_of (function_named (codes "MAIN__")
    (integer (codes "i__1")
    ∷ integer (codes "i__2")
    ∷ local.Addresses (codes "a__1") 2 ∷ [])
    (set (codes "i__1") (expr.Binary op.Equal (expr.Index (name (codes "a__1")) (whole_number 0))
    (expr.Index (name (codes "a__1")) (whole_number 1)))
    ∷ return_zero ∷ []) ∷ [])

-- a read through null
abbrev pub through_null : CFile
through_null =
    file_of (function_named (codes "MAIN__")
    (integer (codes "i__1")
    ∷ integer (codes "i__2") ∷ [])
    (set (codes "i__1") (expr.Unary prefix.Deref (expr.Cast to.Integers (whole_number 0)))
    ∷ return_zero ∷ []) ∷ [])

-- a store through null
abbrev pub stored_through_null : CFile
stored_through_null =
    file_of (function_named (codes "MAIN__")
    (integer (codes "i__1")
    ∷ integer (codes "i__2") ∷ [])
    (stmt.Set (expr.Unary prefix.Deref (expr.Cast to.Integers (whole_number 0))) (whole_number 1)
    ∷ return_zero ∷ []) ∷ [])

-- four bytes from an offset that is no multiple of four
abbrev pub between_numbers : CFile
between_numbers =
    file_of (function_named (codes "MAIN__")
    (integer (codes "i__1")
    ∷ integer (codes "i__2")
    ∷ local.StaticNumbers number.Integer (codes "a") 2 None ∷ [])
    (set (codes "i__1") (expr.Unary prefix.Deref (expr.Cast to.Integers (expr.Binary op.Add
    (expr.Cast to.Chars (name (codes "a"))) (whole_number 1))))
    ∷ return_zero ∷ []) ∷ [])

-- a pointer moved before its object
abbrev pub moved_before : CFile
moved_before =
    file_of (function_named (codes "MAIN__")
    (integer (codes "i__1")
    ∷ integer (codes "i__2")
    ∷ local.StaticNumbers number.Integer (codes "a") 2 None ∷ [])
    (set (codes "i__1") (expr.Binary op.Equal (expr.Binary op.Subtract (name (codes "a"))
    (whole_number 1)) (name (codes "a")))
    ∷ return_zero ∷ []) ∷ [])

-- a pointer moved more than one past the end
abbrev pub moved_past : CFile
moved_past =
    file_of (function_named (codes "MAIN__")
    (integer (codes "i__1")
    ∷ integer (codes "i__2")
    ∷ local.StaticNumbers number.Integer (codes "a") 2 None ∷ [])
    (set (codes "i__1") (expr.Binary op.Equal (expr.Binary op.Add (name (codes "a")) (whole_number
    3)) (name (codes "a")))
    ∷ return_zero ∷ []) ∷ [])

-- a byte past the end of a text
abbrev pub byte_past : CFile
byte_past =
    file_of (function_named (codes "MAIN__")
    (integer (codes "i__1")
    ∷ integer (codes "i__2")
    ∷ local.StaticChars (codes "t") (Some 2) None ∷ [])
    (set (codes "i__1") (expr.Unary prefix.Deref (expr.Binary op.Add (expr.Cast to.UnsignedChars
    (name (codes "t"))) (whole_number 2)))
    ∷ return_zero ∷ []) ∷ [])

-- `*i__2` of a number
abbrev pub number_for_a_pointer : CFile
number_for_a_pointer =
    file_of (function_named (codes "MAIN__")
    (integer (codes "i__1")
    ∷ integer (codes "i__2") ∷ [])
    (set (codes "i__2") (whole_number 1)
    ∷ set (codes "i__1") (expr.Unary prefix.Deref (name (codes "i__2")))
    ∷ return_zero ∷ []) ∷ [])

-- `if (&i__2)`
abbrev pub pointer_for_a_condition : CFile
pointer_for_a_condition =
    file_of (function_named (codes "MAIN__")
    (integer (codes "i__1")
    ∷ integer (codes "i__2") ∷ [])
    (stmt.If (address (codes "i__2"))
    (stmt.Empty ∷ []) None
    ∷ return_zero ∷ []) ∷ [])

-- `switch (&i__2)`
abbrev pub pointer_for_a_case : CFile
pointer_for_a_case =
    file_of (function_named (codes "MAIN__")
    (integer (codes "i__1")
    ∷ integer (codes "i__2") ∷ [])
    (stmt.Switch (address (codes "i__2")) (case 1 (codes "L1") ∷ [])
    ∷ stmt.Label (codes "L1") stmt.Empty
    ∷ return_zero ∷ []) ∷ [])

-- `-&i__2`
abbrev pub pointer_negated : CFile
pointer_negated =
    file_of (function_named (codes "MAIN__")
    (integer (codes "i__1")
    ∷ integer (codes "i__2") ∷ [])
    (set (codes "i__1") (expr.Unary prefix.Minus (address (codes "i__2")))
    ∷ return_zero ∷ []) ∷ [])

-- `&i__2 + &i__1`
abbrev pub two_pointers_added : CFile
two_pointers_added =
    file_of (function_named (codes "MAIN__")
    (integer (codes "i__1")
    ∷ integer (codes "i__2") ∷ [])
    (set (codes "i__1") (expr.Binary op.Add (address (codes "i__2")) (address (codes "i__1")))
    ∷ return_zero ∷ []) ∷ [])

-- `1 - &i__2`
abbrev pub pointer_subtracted : CFile
pointer_subtracted =
    file_of (function_named (codes "MAIN__")
    (integer (codes "i__1")
    ∷ integer (codes "i__2") ∷ [])
    (set (codes "i__1") (expr.Binary op.Subtract (whole_number 1) (address (codes "i__2")))
    ∷ return_zero ∷ []) ∷ [])

-- `&i__2 == 1`
abbrev pub number_compared_with_a_pointer : CFile
number_compared_with_a_pointer =
    file_of (function_named (codes "MAIN__")
    (integer (codes "i__1")
    ∷ integer (codes "i__2") ∷ [])
    (set (codes "i__1") (expr.Binary op.Equal (address (codes "i__2")) (whole_number 1))
    ∷ return_zero ∷ []) ∷ [])

-- `a < a + 1`
abbrev pub pointers_in_order : CFile
pointers_in_order =
    file_of (function_named (codes "MAIN__")
    (integer (codes "i__1")
    ∷ integer (codes "i__2")
    ∷ local.StaticNumbers number.Integer (codes "a") 2 None ∷ [])
    (set (codes "i__1") (expr.Binary op.Less (name (codes "a")) (expr.Binary op.Add (name
    (codes "a")) (whole_number 1)))
    ∷ return_zero ∷ []) ∷ [])

-- `a[&i__2]`
abbrev pub pointer_for_an_index : CFile
pointer_for_an_index =
    file_of (function_named (codes "MAIN__")
    (integer (codes "i__1")
    ∷ integer (codes "i__2")
    ∷ local.StaticNumbers number.Integer (codes "a") 2 None ∷ [])
    (set (codes "i__1") (expr.Index (name (codes "a")) (address (codes "i__2")))
    ∷ return_zero ∷ []) ∷ [])

-- `&(i__1 + 1)`
abbrev pub address_of_a_sum : CFile
address_of_a_sum =
    file_of (function_named (codes "MAIN__")
    (integer (codes "i__1")
    ∷ integer (codes "i__2")
    ∷ local.StaticNumbers number.Integer (codes "a") 2 None ∷ [])
    (set (codes "i__1") (whole_number 1)
    ∷ set (codes "i__1") (expr.Binary op.Equal (expr.Unary prefix.Address (expr.Binary op.Add (name
    (codes "i__1")) (whole_number 1))) (name (codes "a")))
    ∷ return_zero ∷ []) ∷ [])

-- `(1 + 1) = 2;`
abbrev pub stored_in_a_sum : CFile
stored_in_a_sum =
    file_of (function_named (codes "MAIN__")
    (integer (codes "i__1")
    ∷ integer (codes "i__2") ∷ [])
    (stmt.Set (expr.Binary op.Add (whole_number 1) (whole_number 1)) (whole_number 2)
    ∷ return_zero ∷ []) ∷ [])

-- `f_ = 2;`
abbrev pub stored_in_a_function : CFile
stored_in_a_function =
    file_of (function_named (codes "f_") [] (return_zero ∷ [])
    ∷ function_named (codes "MAIN__")
    (integer (codes "i__1")
    ∷ integer (codes "i__2") ∷ [])
    (set (codes "f_") (whole_number 2)
    ∷ return_zero ∷ []) ∷ [])

-- `i__2.cierr`
abbrev pub field_of_a_number : CFile
field_of_a_number =
    file_of (function_named (codes "MAIN__")
    (integer (codes "i__1")
    ∷ integer (codes "i__2") ∷ [])
    (set (codes "i__1") (expr.Field (name (codes "i__2")) (codes "cierr"))
    ∷ return_zero ∷ []) ∷ [])

-- a list read as a number
abbrev pub list_as_a_number : CFile
list_as_a_number =
    file_of (function_named (codes "MAIN__")
    (integer (codes "i__1")
    ∷ integer (codes "i__2")
    ∷ output_list ∷ [])
    (set (codes "i__1") (expr.Unary prefix.Deref (expr.Cast to.Integers (address (codes "io___1"))))
    ∷ return_zero ∷ []) ∷ [])

-- an `address` array read as numbers
abbrev pub address_as_a_number : CFile
address_as_a_number =
    file_of (function_named (codes "MAIN__")
    (integer (codes "i__1")
    ∷ integer (codes "i__2")
    ∷ local.Addresses (codes "a__1") 2 ∷ [])
    (stmt.Set (expr.Index (name (codes "a__1")) (whole_number 0)) (expr.Str (codes "x"))
    ∷ set (codes "i__1") (expr.Unary prefix.Deref (expr.Cast to.Integers (name (codes "a__1"))))
    ∷ return_zero ∷ []) ∷ [])

-- the same where no element is set
abbrev pub unset_address_as_a_number : CFile
unset_address_as_a_number =
    file_of (function_named (codes "MAIN__")
    (integer (codes "i__1")
    ∷ integer (codes "i__2")
    ∷ local.Addresses (codes "a__1") 2 ∷ [])
    (set (codes "i__1") (expr.Unary prefix.Deref (expr.Cast to.Integers (name (codes "a__1"))))
    ∷ return_zero ∷ []) ∷ [])

-- a parameter of pointer type read as a number
abbrev pub parameter_as_a_number : CFile
parameter_as_a_number =
    file_of (record {
      result = result.Int;
      name = (codes "f_");
      params = (record {
        of =
            parameter.Integers;
        name = (codes "p");
      } ∷ []);
      locals = [];
      body =
          (stmt.Return (Some (expr.Unary prefix.Deref (expr.Cast to.Integers (address (codes "p"))))) ∷
          []);
    }
    ∷ function_named (codes "MAIN__")
    (integer (codes "i__1")
    ∷ integer (codes "i__2") ∷ [])
    (do_call (codes "f_") (address (codes "i__1") ∷ [])
    ∷ return_zero ∷ []) ∷ [])

-- a pointer as the value of a function
abbrev pub pointer_returned : CFile
pointer_returned =
    file_of (function_named (codes "f_")
    (integer (codes "x") ∷ [])
    (stmt.Return (Some (address (codes "x"))) ∷ [])
    ∷ function_named (codes "MAIN__")
    (integer (codes "i__1")
    ∷ integer (codes "i__2") ∷ [])
    (stmt.SetCall (name (codes "i__1")) (call (codes "f_") [])
    ∷ return_zero ∷ []) ∷ [])

-- `f_ + 1`
abbrev pub function_plus_a_number : CFile
function_plus_a_number =
    file_of (function_named (codes "f_") [] (return_zero ∷ [])
    ∷ function_named (codes "MAIN__")
    (integer (codes "i__1")
    ∷ integer (codes "i__2") ∷ [])
    (set (codes "i__1") (expr.Binary op.Add (name (codes "f_")) (whole_number 1))
    ∷ return_zero ∷ []) ∷ [])

-- `*f_`
abbrev pub function_through_a_pointer : CFile
function_through_a_pointer =
    file_of (function_named (codes "f_") [] (return_zero ∷ [])
    ∷ function_named (codes "MAIN__")
    (integer (codes "i__1")
    ∷ integer (codes "i__2") ∷ [])
    (set (codes "i__1") (expr.Unary prefix.Deref (name (codes "f_")))
    ∷ return_zero ∷ []) ∷ [])

-- `(char *)1`
abbrev pub number_cast : CFile
number_cast =
    file_of (function_named (codes "MAIN__")
    (integer (codes "i__1")
    ∷ integer (codes "i__2") ∷ [])
    (set (codes "i__1") (expr.Binary op.Equal (expr.Cast to.Chars (whole_number 1)) (expr.Cast
    to.Chars (whole_number 0)))
    ∷ return_zero ∷ []) ∷ [])

-- a call with too few arguments
abbrev pub too_few_arguments : CFile
too_few_arguments =
    file_of (record {
      result = result.Int;
      name = (codes "f_");
      params = (record {
        of = parameter.Int;
        name = (codes "n");
      } ∷ []);
      locals = [];
      body =
          (stmt.Return (Some (name (codes "n"))) ∷ []);
    }
    ∷ function_named (codes "MAIN__")
    (integer (codes "i__1")
    ∷ integer (codes "i__2") ∷ [])
    (do_call (codes "f_") []
    ∷ return_zero ∷ []) ∷ [])

-- a number for a pointer
abbrev pub number_for_a_pointer_argument : CFile
number_for_a_pointer_argument =
    file_of (record {
      result = result.Int;
      name = (codes "f_");
      params = (record {
        of =
            parameter.Integers;
        name = (codes "p");
      } ∷ []);
      locals = [];
      body = (return_zero ∷ []);
    }
    ∷ function_named (codes "MAIN__")
    (integer (codes "i__1")
    ∷ integer (codes "i__2") ∷ [])
    (do_call (codes "f_") (whole_number 1 ∷ [])
    ∷ return_zero ∷ []) ∷ [])

-- a pointer for a length
abbrev pub pointer_for_a_length_argument : CFile
pointer_for_a_length_argument =
    file_of (record {
      result = result.Int;
      name = (codes "f_");
      params = (record {
        of =
            parameter.Length;
        name = (codes "n");
      } ∷ []);
      locals = [];
      body = (return_zero ∷ []);
    }
    ∷ function_named (codes "MAIN__")
    (integer (codes "i__1")
    ∷ integer (codes "i__2") ∷ [])
    (do_call (codes "f_") (address (codes "i__1") ∷ [])
    ∷ return_zero ∷ []) ∷ [])

-- a function for a pointer
abbrev pub function_for_a_pointer_argument : CFile
function_for_a_pointer_argument =
    file_of (function_named (codes "g_") [] (return_zero ∷ [])
    ∷ record {
      result = result.Int;
      name = (codes "f_");
      params = (record {
        of = parameter.Integers;
        name = (codes "p");
      } ∷ []);
      locals = [];
      body = (return_zero ∷ []);
    }
    ∷ function_named (codes "MAIN__")
    (integer (codes "i__1")
    ∷ integer (codes "i__2") ∷ [])
    (do_call (codes "f_") (expr.Cast to.Integers (name (codes "g_")) ∷ [])
    ∷ return_zero ∷ []) ∷ [])

-- a number for the text of the library
abbrev pub library_argument : CFile
library_argument =
    file_of (function_named (codes "MAIN__")
    (integer (codes "i__1")
    ∷ integer (codes "i__2")
    ∷ local.Extern result.Int (codes "s_stop") (argument.Parameter parameter.Chars ∷
    argument.Parameter parameter.Length ∷ []) ∷ [])
    (do_call (codes "s_stop") (whole_number 1 ∷ whole_number 2 ∷ [])
    ∷ return_zero ∷ []) ∷ [])

-- a value of a function whose end is reached
abbrev pub value_of_an_end : CFile
value_of_an_end =
    file_of (function_named (codes "f_") []
    (stmt.Empty ∷ [])
    ∷ function_named (codes "MAIN__")
    (integer (codes "i__1")
    ∷ integer (codes "i__2") ∷ [])
    (stmt.SetCall (name (codes "i__1")) (call (codes "f_") [])
    ∷ return_zero ∷ []) ∷ [])

-- a value of `return;`
abbrev pub value_of_a_bare_return : CFile
value_of_a_bare_return =
    file_of (function_named (codes "f_") []
    (stmt.Return None ∷ [])
    ∷ function_named (codes "MAIN__")
    (integer (codes "i__1")
    ∷ integer (codes "i__2") ∷ [])
    (stmt.SetCall (name (codes "i__1")) (call (codes "f_") [])
    ∷ return_zero ∷ []) ∷ [])

-- `return f_();` of a function that gives nothing
abbrev pub returned_nothing : CFile
returned_nothing =
    file_of (record {
      result = result.Void;
      name = (codes "f_");
      params = [];
      locals = [];
      body =
          (stmt.Empty ∷ []);
    }
    ∷ function_named (codes "g_") []
    (stmt.ReturnCall (call (codes "f_") []) ∷ [])
    ∷ function_named (codes "MAIN__")
    (integer (codes "i__1")
    ∷ integer (codes "i__2") ∷ [])
    (do_call (codes "g_") []
    ∷ return_zero ∷ []) ∷ [])

-- a call of the main program by a function that it calls
abbrev pub calls_back : CFile
calls_back =
    file_of (function_named (codes "f_")
    (extern_int (codes "MAIN__") ∷ [])
    (do_call (codes "MAIN__") []
    ∷ return_zero ∷ [])
    ∷ function_named (codes "MAIN__")
    (integer (codes "i__1")
    ∷ integer (codes "i__2") ∷ [])
    (do_call (codes "f_") []
    ∷ return_zero ∷ []) ∷ [])

-- a negative length
abbrev pub negative_text_length : CFile
negative_text_length =
    file_of (function_named (codes "MAIN__")
    (integer (codes "i__1")
    ∷ integer (codes "i__2")
    ∷ local.Extern result.Int (codes "s_stop") (argument.Parameter parameter.Chars ∷
    argument.Parameter parameter.Length ∷ []) ∷ [])
    (do_call (codes "s_stop") (expr.Str (codes "") ∷ expr.Unary prefix.Minus (whole_number 1) ∷ [])
    ∷ return_zero ∷ []) ∷ [])

-- an item outside a transfer
abbrev pub item_outside : CFile
item_outside =
    file_of (function_named (codes "MAIN__")
    (integer (codes "i__1")
    ∷ integer (codes "i__2")
    ∷ local.Extern result.Integer (codes "do_fio") (argument.Parameter parameter.Integers ∷
    argument.Parameter parameter.Chars ∷ argument.Parameter parameter.Length ∷ []) ∷ [])
    (set (codes "i__2") (whole_number 1)
    ∷ stmt.SetCall (name (codes "i__1")) (call (codes "do_fio") (address (codes "i__2") ∷ expr.Cast
    to.Chars (address (codes "i__2")) ∷ whole_number 4 ∷ []))
    ∷ return_zero ∷ []) ∷ [])

-- an end outside a transfer, in a function
abbrev pub end_in_a_function : CFile
end_in_a_function =
    file_of (function_named (codes "f_")
    (local.Extern result.Integer (codes "e_wsfe") [] ∷ [])
    (do_call (codes "e_wsfe") []
    ∷ return_zero ∷ [])
    ∷ function_named (codes "MAIN__")
    (integer (codes "i__1")
    ∷ integer (codes "i__2") ∷ [])
    (do_call (codes "f_") []
    ∷ return_zero ∷ []) ∷ [])
