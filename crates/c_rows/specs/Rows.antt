-- The worked programs.
use Rattle.std.specs.Prelude.{ℕ, zero, suc, pos, List, [], ◌∷◌, ◌++◌, Some, None, codes}
use Rattle.c_tree.specs.declared.expression.UnaryOp.TheVariants as prefix
use Rattle.c_tree.specs.declared.statement.CStmt.{CStmt}
use Rattle.c_tree.specs.declared.types.NumberType.TheVariants as number
use Rattle.c_tree.specs.declared.types.ResultType.TheVariants as result
use Rattle.c_tree.specs.declared.types.ParameterType.TheVariants as parameter
use Rattle.c_tree.specs.declared.types.ArgumentType.TheVariants as argument
use Rattle.c_tree.specs.declared.expression.BinaryOp.TheVariants as op
use Rattle.c_tree.specs.declared.expression.CExpr.{CExpr}
use Rattle.c_tree.specs.declared.expression.CExpr.TheVariants as expr
use Rattle.c_tree.specs.declared.statement.CStmt.TheVariants as stmt
use Rattle.c_tree.specs.declared.declaration.CLocal.TheVariants as local
use Rattle.c_tree.specs.declared.types.ListType.TheVariants as list
use Rattle.c_tree.specs.declared.types.CastType.TheVariants as to
use Rattle.c_tree.specs.declared.declaration.CLocal.{CLocal}
use Rattle.c_tree.specs.declared.declaration.CField.{CField}
use Rattle.c_tree.specs.declared.declaration.CField.TheVariants as given
use Rattle.c_tree.specs.declared.file.CFile.{CFile}
use Rattle.c_tree.specs.declared.file.CObject.TheVariants as object
use Rattle.c_tree.specs.declared.expression.BinaryOp.{BinaryOp}
use Rattle.c_tree.specs.declared.statement.CCase.{CCase}
use Rattle.c_tree.specs.declared.statement.CNext.{CNext}
use Rattle.c_tree.specs.declared.statement.CNext.TheVariants as next
use Rattle.c_tree.specs.declared.file.CFunction.{CFunction}
use Rattle.c_rows.specs.RowTexts.{call, address, constant, output_functions, output_list, written_integer, return_zero, name, whole_number, set, do_call, extern_int, function_named, file_of, body_with, printed, printing_with}

-- the text of the cards `I=2`, `PRINT *,I+3`, `END`
abbrev pub first_path : CFile
first_path = record {
  objects = [];
  constants = constant (codes "c__1") (pos 1) ∷ constant (codes "c__3") (pos 3) ∷ [];
  functions =
      function_named
      (codes "MAIN__")
      (local.Number number.Integer (codes "i__1")
      ∷ local.StaticNumber number.Integer (codes "i__") None
      ∷ output_list
      ∷ output_functions)
      (stmt.Set (expr.Name (codes "i__")) (expr.Number (pos 2))
      ∷ stmt.Call (call (codes "s_wsle") (address (codes "io___1") ∷ []))
      ∷ stmt.Set (expr.Name (codes "i__1")) (expr.Binary op.Add (expr.Name (codes "i__")) (expr.Number (pos 3)))
      ∷ written_integer (codes "i__1")
      ∷ stmt.Call (call (codes "e_wsle") [])
      ∷ return_zero
      ∷ [])
      ∷ [];
}

-- `i__1 = 1 / 0;`
abbrev pub divides_by_zero : List CFile
divides_by_zero = body_with [] (set (codes "i__1") (expr.Binary op.Divide (whole_number 1) (whole_number 0)) ∷ [])

-- a file of the include line alone
abbrev pub nothing : CFile
nothing = file_of []

-- `i__1 = 2147483647 + 1;`
abbrev pub overflows : List CFile
overflows = body_with [] (set (codes "i__1") (expr.Binary op.Add (whole_number 2147483647) (whole_number 1)) ∷ [])

-- `i__1 = i__2;`
abbrev pub reads_unset : List CFile
reads_unset = body_with [] (set (codes "i__1") (name (codes "i__2")) ∷ [])

-- `static integer a[2];` and `a[2] = 1;`
abbrev pub stores_outside : List CFile
stores_outside =
    body_with
    (local.StaticNumbers number.Integer (codes "a") 2 None ∷ [])
    (stmt.Set (expr.Index (name (codes "a")) (whole_number 2)) (whole_number 1) ∷ [])

-- `i__1 = &i__2;`
abbrev pub stores_pointer : List CFile
stores_pointer = body_with [] (set (codes "i__1") (address (codes "i__2")) ∷ [])

-- `extern int f_(int);` and `f_(1);`, where `f_` has no parameters
abbrev pub passes_too_much : List CFile
passes_too_much =
    file_of
    (function_named
    (codes "MAIN__")
    (local.Extern result.Int (codes "f_") (argument.Parameter parameter.Int ∷ []) ∷ [])
    (do_call (codes "f_") (whole_number 1 ∷ []) ∷ return_zero ∷ [])
    ∷ function_named (codes "f_") [] (return_zero ∷ [])
    ∷ [])
    ∷ []

-- `MAIN__();` in the main program
abbrev pub calls_itself : List CFile
calls_itself = body_with (extern_int (codes "MAIN__") ∷ []) (do_call (codes "MAIN__") [] ∷ [])

-- `e_wsle();` outside every transfer
abbrev pub ends_no_transfer : List CFile
ends_no_transfer = body_with (extern_int (codes "e_wsle") ∷ []) (do_call (codes "e_wsle") [] ∷ [])

-- `b_[number]`
abbrev pub element_of_b : ℕ → CExpr
element_of_b number = expr.Index (name (codes "b_")) (whole_number number)

-- `integer b_[2];` and a main program that stores 7 in `b_[1]` and calls `f_`
abbrev pub first_of_two : CFile
first_of_two = record {
  objects = object.Integers (codes "b_") 2 None ∷ [];
  constants = [];
  functions =
      function_named
      (codes "MAIN__")
      (extern_int (codes "f_") ∷ [])
      (stmt.Set (element_of_b 1) (whole_number 7) ∷ do_call (codes "f_") [] ∷ return_zero ∷ [])
      ∷ [];
}

-- `integer b_[3];` and a function `f_` that divides by `b_[1] - 7`
abbrev pub second_of_two : CFile
second_of_two = record {
  objects = object.Integers (codes "b_") 3 None ∷ [];
  constants = [];
  functions =
      function_named
      (codes "f_")
      []
      (stmt.Set
      (element_of_b 2)
      (expr.Binary op.Divide (element_of_b 1) (expr.Binary op.Subtract (element_of_b 1) (whole_number 7)))
      ∷ return_zero
      ∷ [])
      ∷ [];
}

-- `i__1 = -2147483647 - 1;`, and the value printed
abbrev pub prints_least : List CFile
prints_least =
    printing_with
    []
    []
    (set
    (codes "i__1")
    (expr.Binary op.Subtract (expr.Unary prefix.Minus (whole_number 2147483647)) (whole_number 1))
    ∷ printed (codes "i__1"))

-- `*text`
abbrev pub pointed : List ℕ → CExpr
pointed text = expr.Unary prefix.Deref (name text)

-- `int add_(integer *n, integer *s) { *s = *s + *n; return 0; }`
abbrev pub adding_function : CFunction
adding_function = record {
  result = result.Int;
  name = codes "add_";
  params =
      record { of = parameter.Integers; name = codes "n" } ∷ record { of = parameter.Integers; name = codes "s" } ∷ [];
  locals = [];
  body =
      stmt.Set (pointed (codes "s")) (expr.Binary op.Add (pointed (codes "s")) (pointed (codes "n")))
      ∷ return_zero
      ∷ [];
}

-- `i__1 = 2; i__2 = 40; add_(&i__1, &i__2);`, and the sum printed
abbrev pub adds_through_pointers : List CFile
adds_through_pointers =
    printing_with
    (adding_function ∷ [])
    []
    (set (codes "i__1") (whole_number 2)
    ∷ set (codes "i__2") (whole_number 40)
    ∷ do_call (codes "add_") (address (codes "i__1") ∷ address (codes "i__2") ∷ [])
    ∷ printed (codes "i__2"))

-- `integer six_(void) { return 6; }`, and `integer seven_(void) { return six_(); }`
abbrev pub value_functions : List CFunction
value_functions =
    record {
      result = result.Integer;
      name = codes "six_";
      params = [];
      locals = [];
      body = stmt.Return (Some (whole_number 6)) ∷ [];
    }
    ∷ record {
      result = result.Integer;
      name = codes "seven_";
      params = [];
      locals = [];
      body = stmt.ReturnCall (call (codes "six_") []) ∷ [];
    }
    ∷ []

-- `i__1 = seven_();`, and the value printed
abbrev pub returns_a_call : List CFile
returns_a_call =
    printing_with value_functions [] (stmt.SetCall (name (codes "i__1")) (call (codes "seven_") []) ∷ printed (codes "i__1"))

abbrev pub goto : List ℕ → CStmt
goto label = stmt.Goto label

abbrev pub case : ℕ → List ℕ → CCase
case number label = record { number = pos number; label = label }

-- a `switch` on a number with the cases 1 and 2, which set 10 and 20; a number without a case sets 30
abbrev pub switches_on : ℕ → List CFile
switches_on number =
    printing_with
    []
    []
    (set (codes "i__1") (whole_number number)
    ∷ stmt.Switch (name (codes "i__1")) (case 1 (codes "L1") ∷ case 2 (codes "L2") ∷ [])
    ∷ set (codes "i__2") (whole_number 30)
    ∷ goto (codes "L3")
    ∷ stmt.Label (codes "L1") (set (codes "i__2") (whole_number 10))
    ∷ goto (codes "L3")
    ∷ stmt.Label (codes "L2") (set (codes "i__2") (whole_number 20))
    ∷ stmt.Label (codes "L3") stmt.Empty
    ∷ printed (codes "i__2"))

-- `i__2 = i__2 * 10 + i__1;`
abbrev pub digit_added : CStmt
digit_added =
    set
    (codes "i__2")
    (expr.Binary op.Add (expr.Binary op.Multiply (name (codes "i__2")) (whole_number 10)) (name (codes "i__1")))

-- a `for` whose turns add the digits of `i__1`, printed
abbrev pub loops_by : CNext → BinaryOp → ℕ → ℕ → List CFile
loops_by next relation from to =
    printing_with
    []
    []
    (set (codes "i__2") (whole_number 0)
    ∷ stmt.For
    (name (codes "i__1"))
    (whole_number from)
    (expr.Binary relation (name (codes "i__1")) (whole_number to))
    next
    (digit_added ∷ [])
    ∷ printed (codes "i__2"))

abbrev pub counts_up : List CFile
counts_up = loops_by (next.Up (name (codes "i__1"))) op.LessOrEqual 1 3

abbrev pub counts_down : List CFile
counts_down = loops_by (next.Down (name (codes "i__1"))) op.GreaterOrEqual 3 1

abbrev pub counts_by_two : List CFile
counts_by_two = loops_by (next.Add (name (codes "i__1")) (whole_number 2)) op.Less 1 6

abbrev pub counts_nothing : List CFile
counts_nothing = loops_by (next.Up (name (codes "i__1"))) op.LessOrEqual 5 3

-- `do` turns once though its test never holds
abbrev pub turns_once : List CFile
turns_once =
    printing_with
    []
    []
    (set (codes "i__2") (whole_number 4)
    ∷ set (codes "i__1") (whole_number 2)
    ∷ stmt.DoWhile (stmt.Block (digit_added ∷ []) ∷ []) (whole_number 0)
    ∷ printed (codes "i__2"))

-- `if (i__1 < 5) { i__2 = 1; } else { i__2 = 2; }`
abbrev pub takes_an_arm : ℕ → List CFile
takes_an_arm number =
    printing_with
    []
    []
    (set (codes "i__1") (whole_number number)
    ∷ stmt.If
    (expr.Binary op.Less (name (codes "i__1")) (whole_number 5))
    (set (codes "i__2") (whole_number 1) ∷ [])
    (Some (set (codes "i__2") (whole_number 2) ∷ []))
    ∷ printed (codes "i__2"))

-- `i__2 = 1; if (i__1 < 5) { i__2 = 2; }`
abbrev pub takes_no_arm : List CFile
takes_no_arm =
    printing_with
    []
    []
    (set (codes "i__1") (whole_number 7)
    ∷ set (codes "i__2") (whole_number 1)
    ∷ stmt.If
    (expr.Binary op.Less (name (codes "i__1")) (whole_number 5))
    (set (codes "i__2") (whole_number 2) ∷ [])
    None
    ∷ printed (codes "i__2"))

-- a function for two entries with its parameters' number first, and a wrapper for each
abbrev pub entry_functions : CFile
entry_functions =
    file_of
    (record {
      result = result.Int;
      name = codes "f_0_";
      params =
          record { of = parameter.Int; name = codes "n__" } ∷ record { of = parameter.Integers; name = codes "k" } ∷ [];
      locals = [];
      body = stmt.Set (pointed (codes "k")) (name (codes "n__")) ∷ stmt.Empty ∷ return_zero ∷ [];
    }
    ∷ record {
      result = result.Int;
      name = codes "f_";
      params = record { of = parameter.Integers; name = codes "k" } ∷ [];
      locals = [];
      body = stmt.ReturnCall (call (codes "f_0_") (whole_number 0 ∷ name (codes "k") ∷ [])) ∷ [];
    }
    ∷ record {
      result = result.Int;
      name = codes "g_";
      params = record { of = parameter.Integers; name = codes "k" } ∷ [];
      locals = [];
      body = stmt.ReturnCall (call (codes "f_0_") (whole_number 1 ∷ name (codes "k") ∷ [])) ∷ [];
    }
    ∷ [])

-- `g_(&i__1);`, and the number of its entry printed
abbrev pub enters_second : List CFile
enters_second =
    entry_functions
    ∷ printing_with
    []
    (extern_int (codes "g_") ∷ [])
    (do_call (codes "g_") (address (codes "i__1") ∷ []) ∷ printed (codes "i__1"))

-- `s_copy(t, "AB", 4, 2);` and `i__1 = s_cmp(t, "AB", 4, 2);`
abbrev pub compares_texts : List CFile
compares_texts =
    printing_with
    []
    (local.Chars (codes "t") 4 ∷ extern_int (codes "s_copy") ∷ extern_int (codes "s_cmp") ∷ [])
    (do_call
    (codes "s_copy")
    (name (codes "t") ∷ expr.Str (codes "AB") ∷ whole_number 4 ∷ whole_number 2 ∷ [])
    ∷ stmt.SetCall
    (name (codes "i__1"))
    (call (codes "s_cmp") (name (codes "t") ∷ expr.Str (codes "AB") ∷ whole_number 4 ∷ whole_number 2 ∷ []))
    ∷ printed (codes "i__1"))

-- names and labels that the function does not have
abbrev pub undeclared_name : List CFile
undeclared_name = body_with [] (set (codes "k") (whole_number 1) ∷ [])

abbrev pub missing_label : List CFile
missing_label = body_with [] (stmt.Goto (codes "L10") ∷ [])

-- `- - .. 0` with so many signs
abbrev pub negated : ℕ → CExpr
negated zero = whole_number 0
negated (suc more) = expr.Unary prefix.Minus (negated more)

-- `return` of 0 behind a thousand signs
abbrev pub returns_deeply : List CFile
returns_deeply =
    file_of (function_named (codes "MAIN__") [] (stmt.Return (Some (negated 1000)) ∷ []) ∷ []) ∷ []

-- a body of one empty statement, whose end is one more step
abbrev pub ends_without_return : List CFile
ends_without_return = file_of (function_named (codes "MAIN__") [] (stmt.Empty ∷ []) ∷ []) ∷ []

-- a list whose format is as given, and one number
abbrev pub writes_under : List CLocal → CField → List CFile
writes_under locals format =
    body_with
    (locals
    ++ local.StaticList
    list.Transfer
    (codes "io___1")
    (given.Number (pos 0)
    ∷ given.Number (pos 6)
    ∷ given.Number (pos 0)
    ∷ format
    ∷ given.Number (pos 0)
    ∷ [])
    ∷ extern_int (codes "s_wsfe")
    ∷ extern_int (codes "do_fio")
    ∷ extern_int (codes "e_wsfe")
    ∷ [])
    (set (codes "i__1") (whole_number 1)
    ∷ set (codes "i__2") (whole_number 42)
    ∷ do_call (codes "s_wsfe") (address (codes "io___1") ∷ [])
    ∷ do_call
    (codes "do_fio")
    (address (codes "i__1") ∷ expr.Cast to.Chars (address (codes "i__2")) ∷ whole_number 4 ∷ [])
    ∷ do_call (codes "e_wsfe") []
    ∷ [])

-- the format in `static char fmt_10[] = "(I5,' is ',I5)";`
abbrev pub prints_by_a_format : List CFile
prints_by_a_format =
    writes_under
    (local.StaticChars (codes "fmt_10") None (Some (codes "(I5,' is ',I5)")) ∷ [])
    (given.Name (codes "fmt_10"))

-- the format in the list itself
abbrev pub prints_by_a_string : List CFile
prints_by_a_string = writes_under [] (given.Str (codes "(1X,I5)"))
