-- Small programs whose records a C compiler has given; their texts stand as examples/c.
use Rattle.std.specs.Prelude.{◌≡◌, ℕ, ◌-◌, pos, negsuc, List, [], ◌∷◌, ◌++◌, Some, None, true, codes}
use Rattle.c_tree.specs.declared.types.NumberType.TheVariants as number
use Rattle.c_tree.specs.declared.types.ResultType.TheVariants as result
use Rattle.c_tree.specs.declared.types.FunctionType.TheVariants as function_type
use Rattle.c_tree.specs.declared.types.ParameterType.TheVariants as parameter
use Rattle.c_tree.specs.declared.types.ArgumentType.TheVariants as argument
use Rattle.c_tree.specs.declared.types.ListType.TheVariants as list
use Rattle.c_tree.specs.declared.types.CastType.TheVariants as to
use Rattle.c_tree.specs.declared.expression.UnaryOp.TheVariants as prefix
use Rattle.c_tree.specs.declared.expression.BinaryOp.TheVariants as op
use Rattle.c_tree.specs.declared.expression.Extreme.TheVariants as which
use Rattle.c_tree.specs.declared.expression.CExpr.TheVariants as expr
use Rattle.c_tree.specs.declared.statement.CCase.{CCase}
use Rattle.c_tree.specs.declared.statement.CNext.TheVariants as next
use Rattle.c_tree.specs.declared.statement.CStmt.TheVariants as stmt
use Rattle.c_tree.specs.declared.declaration.CLocal.TheVariants as local
use Rattle.c_tree.specs.declared.declaration.CField.TheVariants as given
use Rattle.c_tree.specs.declared.file.CFile.{CFile}
use Rattle.c_tree.specs.declared.file.CObject.TheVariants as object
use Rattle.c_tree.specs.World.{Ending}
use Rattle.c_tree.specs.Meaning.{meaning, outcome, Running, Ended}
use Rattle.c_rows.specs.RowTexts.{call, address, constant, output_constants, output_functions, output_list, written_integer, return_zero, name, whole_number, set, do_call, integer, extern_int, function_named, file_of, printed, output_unit, records_of}

abbrev pub case : ℕ → List ℕ → CCase
case number label = record { number = pos number; label = label }

-- within so many steps the file's program has ended so, and unit 6 has these records
pub record Ends (file : CFile) (steps : ℕ) (ending : Ending) (lines : List (List ℕ)) : Type 0 where
  pub ended : outcome (meaning (file ∷ []) output_unit steps) ≡ Ended ending
  pub written : records_of (pos 6) (meaning (file ∷ []) output_unit steps) ≡ lines

-- at this step and not before, the file's program ends so, and unit 6 has these records
pub record EndsAt (file : CFile) (steps : ℕ) (ending : Ending) (lines : List (List ℕ)) : Type 0 where
  pub running : outcome (meaning (file ∷ []) output_unit (steps - 1)) ≡ Running
  pub ends : Ends file steps ending lines

-- the sum of 1 to 10
abbrev pub sum_of_ten : CFile
sum_of_ten =
    record {
      objects = [];
      constants = output_constants;
      functions =
          (function_named (codes "MAIN__")
          (output_functions
          ++ integer (codes "i__1")
          ∷ integer (codes "i__2")
          ∷ output_list ∷ [])
          (set (codes "i__1") (whole_number 0)
          ∷ stmt.For (name (codes "i__2")) (whole_number 1) (expr.Binary op.LessOrEqual (name
          (codes "i__2")) (whole_number 10)) (next.Up (name (codes "i__2")))
          (set (codes "i__1") (expr.Binary op.Add (name (codes "i__1")) (name (codes "i__2"))) ∷ []) ∷ []
          ++ printed (codes "i__1")
          ++ return_zero ∷ []) ∷ []);
    }

-- the greatest common divisor of 84 and 36
abbrev pub common_divisor : CFile
common_divisor =
    record {
      objects = [];
      constants = output_constants;
      functions =
          (function_named (codes "MAIN__")
          (output_functions
          ++ integer (codes "i__1")
          ∷ integer (codes "i__2")
          ∷ integer (codes "i__3")
          ∷ output_list ∷ [])
          (set (codes "i__1") (whole_number 84)
          ∷ set (codes "i__2") (whole_number 36)
          ∷ stmt.DoWhile
          (set (codes "i__3") (expr.Binary op.Remainder (name (codes "i__1")) (name (codes "i__2")))
          ∷ set (codes "i__1") (name (codes "i__2"))
          ∷ set (codes "i__2") (name (codes "i__3")) ∷ []) (expr.Binary op.Unequal (name (codes "i__2"))
          (whole_number 0)) ∷ []
          ++ printed (codes "i__1")
          ++ return_zero ∷ []) ∷ []);
    }

-- the factorial of 12
abbrev pub factorial : CFile
factorial =
    record {
      objects = [];
      constants = output_constants;
      functions =
          (function_named (codes "MAIN__")
          (output_functions
          ++ integer (codes "i__1")
          ∷ integer (codes "i__2")
          ∷ output_list ∷ [])
          (set (codes "i__1") (whole_number 1)
          ∷ stmt.For (name (codes "i__2")) (whole_number 12) (expr.Binary op.Greater (name (codes "i__2"))
          (whole_number 1)) (next.Down (name (codes "i__2")))
          (set (codes "i__1") (expr.Binary op.Multiply (name (codes "i__1")) (name (codes "i__2"))) ∷ [])
          ∷ [] ++ printed (codes "i__1")
          ++ return_zero ∷ []) ∷ []);
    }

-- the tenth Fibonacci number
abbrev pub fibonacci : CFile
fibonacci =
    record {
      objects = [];
      constants = output_constants;
      functions =
          (function_named (codes "MAIN__")
          (output_functions
          ++ integer (codes "i__1")
          ∷ local.StaticNumbers number.Integer (codes "a") 10 (Some ((pos 1) ∷ (pos 1) ∷ []))
          ∷ output_list ∷ [])
          (stmt.For (name (codes "i__1")) (whole_number 2) (expr.Binary op.Less (name (codes "i__1"))
          (whole_number 10)) (next.Up (name (codes "i__1")))
          (stmt.Set (expr.Index (name (codes "a")) (name (codes "i__1"))) (expr.Binary op.Add (expr.Index
          (name (codes "a")) (expr.Binary op.Subtract (name (codes "i__1")) (whole_number 1))) (expr.Index
          (name (codes "a")) (expr.Binary op.Subtract (name (codes "i__1")) (whole_number 2)))) ∷ [])
          ∷ do_call (codes "s_wsle") (address (codes "io___1") ∷ [])
          ∷ do_call (codes "do_lio") (address (codes "c__3") ∷ address (codes "c__1") ∷ expr.Cast to.Chars
          (expr.Unary prefix.Address (expr.Index (name (codes "a")) (whole_number 9))) ∷ expr.Cast
          to.Length expr.SizeInt ∷ [])
          ∷ do_call (codes "e_wsle") []
          ∷ return_zero ∷ []) ∷ []);
    }

-- how often 6 is halved or tripled until it is 1
abbrev pub halved_or_tripled : CFile
halved_or_tripled =
    record {
      objects = [];
      constants = output_constants;
      functions =
          (function_named (codes "MAIN__")
          (output_functions
          ++ integer (codes "i__1")
          ∷ integer (codes "i__2")
          ∷ output_list ∷ [])
          (set (codes "i__1") (whole_number 6)
          ∷ set (codes "i__2") (whole_number 0)
          ∷ stmt.DoWhile
          (stmt.If (expr.Binary op.Equal (expr.Binary op.Remainder (name (codes "i__1")) (whole_number 2))
          (whole_number 0))
          (set (codes "i__1") (expr.Binary op.Divide (name (codes "i__1")) (whole_number 2)) ∷ []) (Some
          (set (codes "i__1") (expr.Binary op.Add (expr.Binary op.Multiply (whole_number 3) (name
          (codes "i__1"))) (whole_number 1)) ∷ []))
          ∷ set (codes "i__2") (expr.Binary op.Add (name (codes "i__2")) (whole_number 1)) ∷ [])
          (expr.Binary op.Greater (name (codes "i__1")) (whole_number 1)) ∷ []
          ++ printed (codes "i__2")
          ++ return_zero ∷ []) ∷ []);
    }

-- four numbers in order
abbrev pub sorted : CFile
sorted =
    record {
      objects = [];
      constants = output_constants;
      functions =
          (function_named (codes "MAIN__")
          (output_functions
          ++ integer (codes "i__1")
          ∷ integer (codes "i__2")
          ∷ integer (codes "i__3")
          ∷ local.StaticNumbers number.Integer (codes "a") 4 (Some ((pos 3) ∷ (negsuc 0) ∷ (pos 4) ∷
          (negsuc 4) ∷ []))
          ∷ output_list ∷ [])
          (stmt.For (name (codes "i__1")) (whole_number 3) (expr.Binary op.Greater (name (codes "i__1"))
          (whole_number 0)) (next.Down (name (codes "i__1")))
          (stmt.For (name (codes "i__2")) (whole_number 0) (expr.Binary op.Less (name (codes "i__2"))
          (name (codes "i__1"))) (next.Up (name (codes "i__2")))
          (stmt.If (expr.Binary op.Greater (expr.Index (name (codes "a")) (name (codes "i__2")))
          (expr.Index (name (codes "a")) (expr.Binary op.Add (name (codes "i__2")) (whole_number 1))))
          (set (codes "i__3") (expr.Index (name (codes "a")) (name (codes "i__2")))
          ∷ stmt.Set (expr.Index (name (codes "a")) (name (codes "i__2"))) (expr.Index (name (codes "a"))
          (expr.Binary op.Add (name (codes "i__2")) (whole_number 1)))
          ∷ stmt.Set (expr.Index (name (codes "a")) (expr.Binary op.Add (name (codes "i__2"))
          (whole_number 1))) (name (codes "i__3")) ∷ []) None ∷ []) ∷ [])
          ∷ do_call (codes "s_wsle") (address (codes "io___1") ∷ [])
          ∷ do_call (codes "do_lio") (address (codes "c__3") ∷ address (codes "c__1") ∷ expr.Cast to.Chars
          (expr.Unary prefix.Address (expr.Index (name (codes "a")) (whole_number 0))) ∷ expr.Cast
          to.Length expr.SizeInt ∷ [])
          ∷ do_call (codes "do_lio") (address (codes "c__3") ∷ address (codes "c__1") ∷ expr.Cast to.Chars
          (expr.Unary prefix.Address (expr.Index (name (codes "a")) (whole_number 1))) ∷ expr.Cast
          to.Length expr.SizeInt ∷ [])
          ∷ do_call (codes "do_lio") (address (codes "c__3") ∷ address (codes "c__1") ∷ expr.Cast to.Chars
          (expr.Unary prefix.Address (expr.Index (name (codes "a")) (whole_number 2))) ∷ expr.Cast
          to.Length expr.SizeInt ∷ [])
          ∷ do_call (codes "do_lio") (address (codes "c__3") ∷ address (codes "c__1") ∷ expr.Cast to.Chars
          (expr.Unary prefix.Address (expr.Index (name (codes "a")) (whole_number 3))) ∷ expr.Cast
          to.Length expr.SizeInt ∷ [])
          ∷ do_call (codes "e_wsle") []
          ∷ return_zero ∷ []) ∷ []);
    }

-- `switch` in a loop
abbrev pub computed_branch : CFile
computed_branch =
    record {
      objects = [];
      constants = output_constants;
      functions =
          (function_named (codes "MAIN__")
          (output_functions
          ++ integer (codes "i__1")
          ∷ integer (codes "i__2")
          ∷ output_list ∷ [])
          (set (codes "i__2") (whole_number 0)
          ∷ stmt.For (name (codes "i__1")) (whole_number 1) (expr.Binary op.LessOrEqual (name
          (codes "i__1")) (whole_number 4)) (next.Up (name (codes "i__1")))
          (stmt.Switch (name (codes "i__1")) (case 1 (codes "L10") ∷ case 3 (codes "L30") ∷ [])
          ∷ set (codes "i__2") (expr.Binary op.Add (expr.Binary op.Multiply (name (codes "i__2"))
          (whole_number 10)) (whole_number 9))
          ∷ stmt.Goto (codes "L40")
          ∷ stmt.Label (codes "L10")
          (set (codes "i__2") (expr.Binary op.Add (expr.Binary op.Multiply (name (codes "i__2"))
          (whole_number 10)) (whole_number 1)))
          ∷ stmt.Goto (codes "L40")
          ∷ stmt.Label (codes "L30")
          (set (codes "i__2") (expr.Binary op.Add (expr.Binary op.Multiply (name (codes "i__2"))
          (whole_number 10)) (whole_number 3)))
          ∷ stmt.Label (codes "L40") stmt.Empty ∷ []) ∷ []
          ++ printed (codes "i__2")
          ++ return_zero ∷ []) ∷ []);
    }

-- two numbers, swapped through pointers
abbrev pub swapped : CFile
swapped =
    record {
      objects = [];
      constants = output_constants;
      functions = (record {
        result = result.Int;
        name
            = (codes "swap_");
        params = (record { of = parameter.Integers; name = (codes "i__") }
            ∷ record { of = parameter.Integers; name = (codes "j") } ∷ []);
        locals =
            (integer (codes "i__1") ∷ []);
        body =
            (set (codes "i__1") (expr.Unary prefix.Deref (name (codes "i__")))
            ∷ stmt.Set (expr.Unary prefix.Deref (name (codes "i__"))) (expr.Unary prefix.Deref (name
            (codes "j")))
            ∷ stmt.Set (expr.Unary prefix.Deref (name (codes "j"))) (name (codes "i__1"))
            ∷ return_zero ∷ []);
      }
          ∷ function_named (codes "MAIN__")
          (output_functions
          ++ local.Extern result.Int (codes "swap_") (argument.Parameter parameter.Integers ∷
          argument.Parameter parameter.Integers ∷ [])
          ∷ local.StaticNumber number.Integer (codes "i__") (Some (pos 5))
          ∷ local.StaticNumber number.Integer (codes "j") (Some (pos 8))
          ∷ output_list ∷ [])
          (do_call (codes "swap_") (address (codes "i__") ∷ address (codes "j") ∷ [])
          ∷ do_call (codes "s_wsle") (address (codes "io___1") ∷ [])
          ∷ written_integer (codes "i__")
          ∷ written_integer (codes "j")
          ∷ do_call (codes "e_wsle") []
          ∷ return_zero ∷ []) ∷ []);
    }

-- `return f(..)`
abbrev pub returned_call : CFile
returned_call =
    record {
      objects = [];
      constants = output_constants;
      functions = (record {
        result = result.Integer;
        name = (codes "plus_");
        params = (record { of = parameter.Integers; name = (codes "i__") }
            ∷ record { of = parameter.Int; name = (codes "n") } ∷ []);
        locals = [];
        body =
            (stmt.Return (Some (expr.Binary op.Add (expr.Unary prefix.Deref (name (codes "i__"))) (name
            (codes "n")))) ∷ []);
      }
          ∷ record {
            result = result.Integer;
            name = (codes "twice_");
            params = (record {
              of =
                  parameter.Integers;
              name = (codes "i__");
            } ∷ []);
            locals = [];
            body =
                (stmt.ReturnCall (call (codes "plus_") (name (codes "i__") ∷ expr.Unary prefix.Deref (name
                (codes "i__")) ∷ [])) ∷ []);
          }
          ∷ function_named (codes "MAIN__")
          (output_functions
          ++ local.Extern result.Integer (codes "twice_") (argument.Parameter parameter.Integers ∷ [])
          ∷ local.StaticNumber number.Integer (codes "i__") (Some (pos 4))
          ∷ integer (codes "i__1")
          ∷ output_list ∷ [])
          (stmt.SetCall (name (codes "i__1")) (call (codes "twice_") (address (codes "i__") ∷ [])) ∷ []
          ++ printed (codes "i__1")
          ++ return_zero ∷ []) ∷ []);
    }

-- a function as argument
abbrev pub passed_function : CFile
passed_function =
    record {
      objects = [];
      constants = output_constants;
      functions = (record {
        result = result.Int;
        name
            = (codes "double_");
        params = (record { of = parameter.Integers; name = (codes "i__") } ∷ []);
        locals = [];
        body =
            (stmt.Set (expr.Unary prefix.Deref (name (codes "i__"))) (expr.Binary op.Multiply (whole_number
            2) (expr.Unary prefix.Deref (name (codes "i__"))))
            ∷ return_zero ∷ []);
      }
          ∷ record {
            result = result.Int;
            name = (codes "apply_");
            params = (record {
              of =
                  (parameter.Function function_type.Subroutine);
              name = (codes "f");
            }
                ∷ record { of = parameter.Integers; name = (codes "i__") } ∷ []);
            locals = [];
            body =
                (stmt.Call (record {
                  through = true;
                  name = (codes "f");
                  arguments = (name (codes "i__") ∷ []);
                }) ∷ return_zero ∷ []);
          }
          ∷ function_named (codes "MAIN__")
          (output_functions
          ++ local.Extern result.Int (codes "apply_") (argument.Parameter (parameter.Function
          function_type.Subroutine) ∷ argument.Parameter parameter.Integers ∷ [])
          ∷ local.Extern result.Int (codes "double_") (argument.Parameter parameter.Integers ∷ [])
          ∷ local.StaticNumber number.Integer (codes "i__") (Some (pos 21))
          ∷ output_list ∷ [])
          (do_call (codes "apply_") (expr.Cast (to.Function function_type.Subroutine) (name
          (codes "double_")) ∷ address (codes "i__") ∷ []) ∷ []
          ++ printed (codes "i__")
          ++ return_zero ∷ []) ∷ []);
    }

-- texts, padded and overlapping
abbrev pub copied_text : CFile
copied_text =
    record {
      objects = [];
      constants = (constant (codes "c__1") (pos 1) ∷ constant (codes "c__9") (pos 9) ∷ []);
      functions =
          (function_named (codes "MAIN__")
          (output_functions
          ++ local.Extern result.Void (codes "s_copy") (argument.Parameter parameter.Chars ∷
          argument.Parameter parameter.Chars ∷ argument.Parameter parameter.Length ∷ argument.Parameter
          parameter.Length ∷ [])
          ∷ local.StaticChars (codes "t") (Some 6) None
          ∷ local.StaticChars (codes "u") (Some 3) (Some (codes "xyz"))
          ∷ output_list ∷ [])
          (do_call (codes "s_copy") (name (codes "t") ∷ name (codes "u") ∷ expr.Cast to.Length
          (whole_number 6) ∷ expr.Cast to.Length (whole_number 3) ∷ [])
          ∷ do_call (codes "s_copy") (expr.Binary op.Add (name (codes "t")) (whole_number 1) ∷ name
          (codes "t") ∷ expr.Cast to.Length (whole_number 2) ∷ expr.Cast to.Length (whole_number 6) ∷ [])
          ∷ do_call (codes "s_wsle") (address (codes "io___1") ∷ [])
          ∷ do_call (codes "do_lio") (address (codes "c__9") ∷ address (codes "c__1") ∷ name (codes "t") ∷
          expr.Cast to.Length (whole_number 6) ∷ [])
          ∷ do_call (codes "e_wsle") []
          ∷ return_zero ∷ []) ∷ []);
    }

-- texts, compared and searched
abbrev pub compared_texts : CFile
compared_texts =
    record {
      objects = [];
      constants = output_constants;
      functions =
          (function_named (codes "MAIN__")
          (output_functions
          ++ local.Extern result.Integer (codes "s_cmp") (argument.Parameter parameter.Chars ∷
          argument.Parameter parameter.Chars ∷ argument.Parameter parameter.Length ∷ argument.Parameter
          parameter.Length ∷ [])
          ∷ local.Extern result.Integer (codes "i_indx") (argument.Parameter parameter.Chars ∷
          argument.Parameter parameter.Chars ∷ argument.Parameter parameter.Length ∷ argument.Parameter
          parameter.Length ∷ [])
          ∷ integer (codes "i__1")
          ∷ integer (codes "i__2")
          ∷ integer (codes "i__3")
          ∷ output_list ∷ [])
          (stmt.SetCall (name (codes "i__1")) (call (codes "s_cmp") (expr.Str (codes "AB") ∷ expr.Str
          (codes "AB  ") ∷ expr.Cast to.Length (whole_number 2) ∷ expr.Cast to.Length (whole_number 4) ∷
          [])) ∷ stmt.SetCall (name (codes "i__2")) (call (codes "s_cmp") (expr.Str (codes "B") ∷ expr.Str
          (codes "AZ") ∷ expr.Cast to.Length (whole_number 1) ∷ expr.Cast to.Length (whole_number 2) ∷
          [])) ∷ stmt.SetCall (name (codes "i__3")) (call (codes "i_indx") (expr.Str (codes "banana") ∷
          expr.Str (codes "na") ∷ expr.Cast to.Length (whole_number 6) ∷ expr.Cast to.Length (whole_number
          2) ∷ []))
          ∷ do_call (codes "s_wsle") (address (codes "io___1") ∷ [])
          ∷ written_integer (codes "i__1")
          ∷ written_integer (codes "i__2")
          ∷ written_integer (codes "i__3")
          ∷ do_call (codes "e_wsle") []
          ∷ return_zero ∷ []) ∷ []);
    }

-- pieces of texts, end to end and cut
abbrev pub joined_texts : CFile
joined_texts =
    record {
      objects = [];
      constants = (constant (codes "c__1") (pos 1) ∷ constant (codes "c__2") (pos 2) ∷ constant (codes "c__9") (pos 9) ∷ []);
      functions =
          (function_named (codes "MAIN__")
          (output_functions
          ++ local.Extern result.Void (codes "s_cat") (argument.Parameter parameter.Chars ∷
          argument.Addresses ∷ argument.Parameter parameter.Integers ∷ argument.Parameter
          parameter.Integers ∷ argument.Parameter parameter.Length ∷ [])
          ∷ local.Addresses (codes "a__1") 2
          ∷ local.Numbers number.Integer (codes "i__1") 2
          ∷ local.StaticChars (codes "t") (Some 8) None
          ∷ output_list ∷ [])
          (stmt.Set (expr.Index (name (codes "a__1")) (whole_number 0)) (expr.Str (codes "left"))
          ∷ stmt.Set (expr.Index (name (codes "i__1")) (whole_number 0)) (whole_number 2)
          ∷ stmt.Set (expr.Index (name (codes "a__1")) (whole_number 1)) (expr.Str (codes "right"))
          ∷ stmt.Set (expr.Index (name (codes "i__1")) (whole_number 1)) (whole_number 5)
          ∷ do_call (codes "s_cat") (name (codes "t") ∷ name (codes "a__1") ∷ name (codes "i__1") ∷
          address (codes "c__2") ∷ expr.Cast to.Length (whole_number 8) ∷ [])
          ∷ do_call (codes "s_wsle") (address (codes "io___1") ∷ [])
          ∷ do_call (codes "do_lio") (address (codes "c__9") ∷ address (codes "c__1") ∷ name (codes "t") ∷
          expr.Cast to.Length (whole_number 8) ∷ [])
          ∷ do_call (codes "e_wsle") []
          ∷ return_zero ∷ []) ∷ []);
    }

-- a power, a sign and a difference
abbrev pub powers : CFile
powers =
    record {
      objects = [];
      constants = output_constants;
      functions =
          (function_named (codes "MAIN__")
          (output_functions
          ++ local.Extern result.Integer (codes "pow_ii") (argument.Parameter parameter.Integers ∷
          argument.Parameter parameter.Integers ∷ [])
          ∷ local.Extern result.Integer (codes "i_sign") (argument.Parameter parameter.Integers ∷
          argument.Parameter parameter.Integers ∷ [])
          ∷ local.Extern result.Integer (codes "i_dim") (argument.Parameter parameter.Integers ∷
          argument.Parameter parameter.Integers ∷ [])
          ∷ local.StaticNumber number.Integer (codes "m") (Some (negsuc 2))
          ∷ local.StaticNumber number.Integer (codes "n") (Some (pos 5))
          ∷ integer (codes "i__1")
          ∷ integer (codes "i__2")
          ∷ integer (codes "i__3")
          ∷ output_list ∷ [])
          (stmt.SetCall (name (codes "i__1")) (call (codes "pow_ii") (address (codes "m") ∷ address
          (codes "n") ∷ []))
          ∷ stmt.SetCall (name (codes "i__2")) (call (codes "i_sign") (address (codes "n") ∷ address
          (codes "m") ∷ []))
          ∷ stmt.SetCall (name (codes "i__3")) (call (codes "i_dim") (address (codes "n") ∷ address
          (codes "m") ∷ []))
          ∷ do_call (codes "s_wsle") (address (codes "io___1") ∷ [])
          ∷ written_integer (codes "i__1")
          ∷ written_integer (codes "i__2")
          ∷ written_integer (codes "i__3")
          ∷ do_call (codes "e_wsle") []
          ∷ return_zero ∷ []) ∷ []);
    }

-- quotients and remainders of negative numbers
abbrev pub cut_quotients : CFile
cut_quotients =
    record {
      objects = [];
      constants = output_constants;
      functions =
          (function_named (codes "MAIN__")
          (output_functions
          ++ integer (codes "i__1")
          ∷ integer (codes "i__2")
          ∷ integer (codes "i__3")
          ∷ output_list ∷ [])
          (set (codes "i__1") (expr.Binary op.Divide (expr.Unary prefix.Minus (whole_number 7))
          (whole_number 2))
          ∷ set (codes "i__2") (expr.Binary op.Remainder (expr.Unary prefix.Minus (whole_number 7))
          (whole_number 2))
          ∷ set (codes "i__3") (expr.Binary op.Add (expr.Binary op.Subtract (expr.Unary prefix.Minus
          (whole_number 2147483647)) (whole_number 1)) (expr.Binary op.Remainder (whole_number 7)
          (expr.Unary prefix.Minus (whole_number 4))))
          ∷ do_call (codes "s_wsle") (address (codes "io___1") ∷ [])
          ∷ written_integer (codes "i__1")
          ∷ written_integer (codes "i__2")
          ∷ written_integer (codes "i__3")
          ∷ do_call (codes "e_wsle") []
          ∷ return_zero ∷ []) ∷ []);
    }

-- operators that value what they need
abbrev pub decided_early : CFile
decided_early =
    record {
      objects = [];
      constants = output_constants;
      functions =
          (function_named (codes "MAIN__")
          (output_functions
          ++ integer (codes "i__1")
          ∷ integer (codes "i__2")
          ∷ integer (codes "i__3")
          ∷ output_list ∷ [])
          (set (codes "i__2") (whole_number 0)
          ∷ set (codes "i__1") (expr.Binary op.And (expr.Binary op.Unequal (name (codes "i__2"))
          (whole_number 0)) (expr.Binary op.Greater (expr.Binary op.Divide (whole_number 1) (name
          (codes "i__2"))) (whole_number 0)))
          ∷ set (codes "i__3") (expr.Choose (expr.Binary op.Or (expr.Binary op.Equal (name (codes "i__2"))
          (whole_number 0)) (expr.Binary op.Greater (expr.Binary op.Divide (whole_number 1) (name
          (codes "i__2"))) (whole_number 0))) (expr.MaxMin which.Max (name (codes "i__1")) (whole_number
          7)) (expr.MaxMin which.Min (name (codes "i__1")) (expr.Unary prefix.Minus (whole_number 7))))
          ∷ set (codes "i__2") (expr.Binary op.Subtract (expr.Abs (expr.Unary prefix.Minus (whole_number
          9))) (expr.Unary prefix.Not (name (codes "i__3"))))
          ∷ do_call (codes "s_wsle") (address (codes "io___1") ∷ [])
          ∷ written_integer (codes "i__1")
          ∷ written_integer (codes "i__2")
          ∷ written_integer (codes "i__3")
          ∷ do_call (codes "e_wsle") []
          ∷ return_zero ∷ []) ∷ []);
    }

-- a jump back, and blocks in blocks
abbrev pub jumps_back : CFile
jumps_back =
    record {
      objects = [];
      constants = output_constants;
      functions =
          (function_named (codes "MAIN__")
          (output_functions
          ++ integer (codes "i__1")
          ∷ integer (codes "i__2")
          ∷ output_list ∷ [])
          (set (codes "i__1") (whole_number 1)
          ∷ stmt.Label (codes "L10")
          (set (codes "i__1") (expr.Binary op.Multiply (name (codes "i__1")) (whole_number 2)))
          ∷ stmt.If (expr.Binary op.Less (name (codes "i__1")) (whole_number 50))
          (stmt.Goto (codes "L10") ∷ []) None
          ∷ stmt.Block
          (set (codes "i__2") (name (codes "i__1"))
          ∷ stmt.Block
          (set (codes "i__2") (expr.Binary op.Subtract (name (codes "i__2")) (whole_number 60)) ∷ []) ∷
          []) ∷ []
          ++ printed (codes "i__2")
          ++ return_zero ∷ []) ∷ []);
    }

-- external objects with images
abbrev pub shared_objects : CFile
shared_objects =
    record {
      objects = (object.Integers (codes "b_") 3 (Some ((pos 1) ∷ (pos 2) ∷ (pos 3) ∷ [])) ∷
          object.Chars (codes "n_") 4 (Some (codes "ab")) ∷ []);
      constants = output_constants;
      functions =
          (record {
            result = result.Int;
            name = (codes "set_");
            params = (record {
              of =
                  parameter.Integers;
              name = (codes "i__");
            } ∷ []);
            locals = [];
            body =
                (stmt.Set (expr.Index (name (codes "b_")) (expr.Unary prefix.Deref (name (codes "i__"))))
                (expr.Binary op.Subtract (expr.Unary prefix.Deref (expr.Cast to.UnsignedChars (name
                (codes "n_")))) (whole_number 90))
                ∷ return_zero ∷ []);
          }
          ∷ function_named (codes "MAIN__")
          (output_functions
          ++ local.Extern result.Int (codes "set_") (argument.Parameter parameter.Integers ∷ [])
          ∷ local.StaticNumber number.Integer (codes "i__") (Some (pos 2))
          ∷ integer (codes "i__1")
          ∷ output_list ∷ [])
          (do_call (codes "set_") (address (codes "i__") ∷ [])
          ∷ set (codes "i__1") (expr.Binary op.Add (expr.Binary op.Add (expr.Index (name (codes "b_"))
          (whole_number 0)) (expr.Binary op.Multiply (whole_number 10) (expr.Index (name (codes "b_"))
          (whole_number 1)))) (expr.Binary op.Multiply (whole_number 100) (expr.Index (name (codes "b_"))
          (whole_number 2)))) ∷ []
          ++ printed (codes "i__1")
          ++ return_zero ∷ []) ∷ []);
    }

-- pointers into an automatic array, and its bytes
abbrev pub moved_pointers : CFile
moved_pointers =
    record {
      objects = [];
      constants = output_constants;
      functions =
          (function_named (codes "MAIN__")
          (output_functions
          ++ local.Numbers number.Integer (codes "a") 3
          ∷ integer (codes "i__1")
          ∷ output_list ∷ [])
          (stmt.Set (expr.Index (name (codes "a")) (whole_number 0)) (whole_number 5)
          ∷ stmt.Set (expr.Unary prefix.Deref (expr.Binary op.Add (name (codes "a")) (whole_number 2)))
          (whole_number 300)
          ∷ stmt.Set (expr.Index (name (codes "a")) (whole_number 1)) (expr.Binary op.Add (expr.Unary
          prefix.Deref (expr.Cast to.UnsignedChars (expr.Unary prefix.Address (expr.Index (name
          (codes "a")) (whole_number 2))))) (expr.Unary prefix.Deref (expr.Binary op.Subtract (expr.Binary
          op.Add (name (codes "a")) (whole_number 2)) (whole_number 2))))
          ∷ stmt.Set (expr.Unary prefix.Deref (expr.Binary op.Add (expr.Cast to.UnsignedChars (name
          (codes "a"))) (whole_number 1))) (whole_number 1)
          ∷ set (codes "i__1") (expr.Binary op.Equal (name (codes "a")) (expr.Binary op.Subtract
          (expr.Binary op.Add (name (codes "a")) (whole_number 1)) (whole_number 1)))
          ∷ do_call (codes "s_wsle") (address (codes "io___1") ∷ [])
          ∷ do_call (codes "do_lio") (address (codes "c__3") ∷ address (codes "c__1") ∷ expr.Cast to.Chars
          (expr.Unary prefix.Address (expr.Index (name (codes "a")) (whole_number 0))) ∷ expr.Cast
          to.Length expr.SizeInt ∷ [])
          ∷ do_call (codes "do_lio") (address (codes "c__3") ∷ address (codes "c__1") ∷ expr.Cast to.Chars
          (expr.Unary prefix.Address (expr.Index (name (codes "a")) (whole_number 1))) ∷ expr.Cast
          to.Length expr.SizeInt ∷ [])
          ∷ written_integer (codes "i__1")
          ∷ do_call (codes "e_wsle") []
          ∷ return_zero ∷ []) ∷ []);
    }

-- a run that a text ends
abbrev pub stops : CFile
stops =
    record {
      objects = [];
      constants = output_constants;
      functions =
          (function_named (codes "MAIN__")
          (output_functions
          ++ local.Extern result.Int (codes "s_stop") (argument.Parameter parameter.Chars ∷
          argument.Parameter parameter.Length ∷ [])
          ∷ integer (codes "i__1")
          ∷ output_list ∷ [])
          (set (codes "i__1") (whole_number 1) ∷ []
          ++ printed (codes "i__1")
          ++ do_call (codes "s_stop") (expr.Str (codes "77") ∷ expr.Cast to.Length (whole_number 2) ∷ [])
          ∷ [] ++ printed (codes "i__1")
          ++ return_zero ∷ []) ∷ []);
    }

-- a static number over calls
abbrev pub kept_counter : CFile
kept_counter =
    record {
      objects = [];
      constants = output_constants;
      functions =
          (function_named (codes "count_")
          (local.StaticNumber number.Integer (codes "n") None ∷ [])
          (set (codes "n") (expr.Binary op.Add (name (codes "n")) (whole_number 1))
          ∷ stmt.Return (Some (name (codes "n"))) ∷ [])
          ∷ function_named (codes "MAIN__")
          (output_functions ++ extern_int (codes "count_")
          ∷ integer (codes "i__1")
          ∷ output_list ∷ [])
          (do_call (codes "count_") []
          ∷ do_call (codes "count_") []
          ∷ stmt.SetCall (name (codes "i__1")) (call (codes "count_") []) ∷ []
          ++ printed (codes "i__1")
          ++ return_zero ∷ []) ∷ []);
    }

-- a record that would pass column 80
abbrev pub full_record : CFile
full_record =
    record {
      objects = [];
      constants = (constant (codes "c__1") (pos 1) ∷ constant (codes "c__3") (pos
          3) ∷ constant (codes "c__8") (pos 8) ∷ []);
      functions =
          (function_named (codes "MAIN__")
          (output_functions
          ++ local.StaticNumber number.Integer (codes "i__") (Some (negsuc 2147483646))
          ∷ integer (codes "i__1")
          ∷ output_list ∷ [])
          (do_call (codes "s_wsle") (address (codes "io___1") ∷ [])
          ∷ stmt.For (name (codes "i__1")) (whole_number 1) (expr.Binary op.LessOrEqual (name
          (codes "i__1")) (whole_number 7)) (next.Up (name (codes "i__1"))) (written_integer (codes "i__")
          ∷ [])
          ∷ do_call (codes "do_lio") (address (codes "c__8") ∷ address (codes "c__1") ∷ expr.Cast to.Chars
          (address (codes "c__1")) ∷ expr.Cast to.Length expr.SizeInt ∷ [])
          ∷ do_call (codes "e_wsle") []
          ∷ return_zero ∷ []) ∷ []);
    }

-- fields of a list
abbrev pub field_of_a_list : CFile
field_of_a_list =
    record {
      objects = [];
      constants = output_constants;
      functions =
          (function_named (codes "MAIN__")
          (output_functions
          ++ integer (codes "i__1")
          ∷ local.StaticList list.Open (codes "o__1") (given.Number (pos 1) ∷ given.Number (pos 9) ∷
          given.Str (codes "name") ∷ given.Number (pos 4) ∷ [])
          ∷ output_list ∷ [])
          (stmt.Set (expr.Field (name (codes "o__1")) (codes "ounit")) (expr.Binary op.Add (expr.Field
          (name (codes "o__1")) (codes "ounit")) (expr.Field (name (codes "o__1")) (codes "ofnmlen")))
          ∷ set (codes "i__1") (expr.Field (name (codes "o__1")) (codes "ounit")) ∷ []
          ++ printed (codes "i__1")
          ++ return_zero ∷ []) ∷ []);
    }

-- null from a number that is 0 by its value
abbrev pub null_by_value : CFile
null_by_value =
    record {
      objects = [];
      constants = output_constants;
      functions =
          (function_named (codes "MAIN__")
          (output_functions
          ++ integer (codes "i__1")
          ∷ integer (codes "i__2")
          ∷ output_list ∷ [])
          (set (codes "i__2") (whole_number 0)
          ∷ set (codes "i__1") (expr.Binary op.Equal (expr.Cast to.Integers (name (codes "i__2")))
          (expr.Cast to.Integers (whole_number 0))) ∷ []
          ++ printed (codes "i__1")
          ++ return_zero ∷ []) ∷ []);
    }

-- functions and null, compared
abbrev pub functions_compared : CFile
functions_compared =
    record {
      objects = [];
      constants = output_constants;
      functions =
          (function_named (codes "f_") [] (return_zero ∷ [])
          ∷ function_named (codes "g_") [] (return_zero ∷ [])
          ∷ function_named (codes "MAIN__")
          (output_functions
          ++ integer (codes "i__1")
          ∷ output_list ∷ [])
          (set (codes "i__1") (expr.Binary op.Add (expr.Binary op.Add (expr.Binary op.Add (expr.Binary
          op.Multiply (whole_number 8) (expr.Binary op.Equal (name (codes "f_")) (name (codes "f_"))))
          (expr.Binary op.Multiply (whole_number 4) (expr.Binary op.Equal (name (codes "f_")) (name
          (codes "g_"))))) (expr.Binary op.Multiply (whole_number 2) (expr.Binary op.Equal (name
          (codes "f_")) (expr.Cast (to.Function function_type.Subroutine) (whole_number 0)))))
          (expr.Binary op.Equal (name (codes "f_")) (expr.Cast (to.Function function_type.Subroutine)
          (address (codes "i__1"))))) ∷ []
          ++ printed (codes "i__1")
          ++ return_zero ∷ []) ∷ []);
    }

-- a read through a pointer to an automatic object of a function that has returned
abbrev pub reads_automatic_after_return : CFile
reads_automatic_after_return =
    record {
      objects = [];
      constants = output_constants;
      functions = (record {
        result = result.Int;
        name
            = (codes "f_");
        params = (record { of = parameter.Integers; name = (codes "p") }
            ∷ record { of = parameter.Int; name = (codes "n") } ∷ []);
        locals = (output_list ∷ []);
        body =
            (stmt.If (name (codes "n"))
            (stmt.Set (expr.Field (name (codes "io___1")) (codes "cifmt")) (expr.Cast to.Chars (name
            (codes "p")))
            ∷ return_zero ∷ []) None
            ∷ stmt.Return (Some (expr.Unary prefix.Deref (expr.Cast to.Integers (expr.Field (name
            (codes "io___1")) (codes "cifmt"))))) ∷ []);
      }
          ∷ function_named (codes "g_")
          (integer (codes "x") ∷ [])
          (set (codes "x") (whole_number 7)
          ∷ do_call (codes "f_") (address (codes "x") ∷ whole_number 1 ∷ [])
          ∷ return_zero ∷ [])
          ∷ function_named (codes "MAIN__")
          (output_functions
          ++ integer (codes "i__1")
          ∷ output_list ∷ [])
          (do_call (codes "g_") []
          ∷ stmt.SetCall (name (codes "i__1")) (call (codes "f_") (address (codes "i__1") ∷ whole_number 0
          ∷ [])) ∷ []
          ++ printed (codes "i__1")
          ++ return_zero ∷ []) ∷ []);
    }

-- the same where the function was called again, and has not set the object
abbrev pub reads_automatic_at_next_call : CFile
reads_automatic_at_next_call =
    file_of (record {
      result = result.Int;
      name = (codes "f_");
      params = (record {
        of =
            parameter.Integers;
        name = (codes "p");
      }
          ∷ record { of = parameter.Int; name = (codes "n") } ∷ []);
      locals = (output_list ∷ []);
      body =
          (stmt.If (name (codes "n"))
          (stmt.Set (expr.Field (name (codes "io___1")) (codes "cifmt")) (expr.Cast to.Chars (name
          (codes "p")))
          ∷ return_zero ∷ []) None
          ∷ stmt.Return (Some (expr.Unary prefix.Deref (expr.Cast to.Integers (expr.Field (name
          (codes "io___1")) (codes "cifmt"))))) ∷ []);
    }
    ∷ record {
      result = result.Int;
      name = (codes "g_");
      params = (record {
        of = parameter.Int;
        name
            = (codes "n");
      } ∷ []);
      locals =
          (integer (codes "x") ∷ []);
      body =
          (stmt.If (name (codes "n"))
          (set (codes "x") (whole_number 7) ∷ []) None
          ∷ stmt.ReturnCall (call (codes "f_") (address (codes "x") ∷ name (codes "n") ∷ [])) ∷ []);
    }
    ∷ function_named (codes "MAIN__") []
    (do_call (codes "g_") (whole_number 1 ∷ [])
    ∷ do_call (codes "g_") (whole_number 0 ∷ [])
    ∷ return_zero ∷ []) ∷ [])
