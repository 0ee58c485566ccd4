-- Programs of several files, and the rules of linking.
use Rattle.std.specs.Prelude.{◌≡◌, ℕ, pos, List, [], ◌∷◌, ◌++◌, Some, None, codes}
use Rattle.c_tree.specs.declared.types.ResultType.TheVariants as result
use Rattle.c_tree.specs.declared.types.FunctionType.TheVariants as function_type
use Rattle.c_tree.specs.declared.types.ParameterType.TheVariants as parameter
use Rattle.c_tree.specs.declared.types.CastType.TheVariants as to
use Rattle.c_tree.specs.declared.types.ListType.TheVariants.{Transfer}
use Rattle.c_tree.specs.declared.expression.UnaryOp.TheVariants as prefix
use Rattle.c_tree.specs.declared.expression.BinaryOp.TheVariants as op
use Rattle.c_tree.specs.declared.expression.CExpr.TheVariants as expr
use Rattle.c_tree.specs.declared.statement.CStmt.TheVariants as stmt
use Rattle.c_tree.specs.declared.declaration.CField.TheVariants as given
use Rattle.c_tree.specs.declared.declaration.CLocal.{CLocal}
use Rattle.c_tree.specs.declared.declaration.CLocal.TheVariants as local
use Rattle.c_tree.specs.declared.file.CFile.{CFile}
use Rattle.c_tree.specs.declared.file.CObject.{CObject}
use Rattle.c_tree.specs.declared.file.CObject.TheVariants as object
use Rattle.c_tree.specs.Meaning.{meaning, outcome, Ended}
use Rattle.c_tree.specs.World.{Plain}
use Rattle.c_rows.specs.RowTexts.{output_constants, output_functions, output_list, return_zero, name, whole_number, set, do_call, integer, extern_int, function_named, file_of, printed, output_unit, records_of}

-- within thirty steps the files' program has ended, and unit 6 has this record alone
pub record Prints (files : List CFile) (line : List ℕ) : Type 0 where
  pub ended : outcome (meaning files output_unit 30) ≡ Ended Plain
  pub written : records_of (pos 6) (meaning files output_unit 30) ≡ line ∷ []

-- a main program with `integer b_[2];` that sets `b_[1]`, calls `f_` and prints `b_[0]`
abbrev pub small_block : CFile
small_block =
    record {
      objects = (object.Integers (codes "b_") 2 None ∷ []);
      constants = output_constants;
      functions =
          (function_named (codes "MAIN__")
          (output_functions ++ extern_int (codes "f_")
          ∷ integer (codes "i__1")
          ∷ output_list ∷ [])
          (stmt.Set (expr.Index (name (codes "b_")) (whole_number 1)) (whole_number 7)
          ∷ do_call (codes "f_") []
          ∷ set (codes "i__1") (expr.Index (name (codes "b_")) (whole_number 0)) ∷ []
          ++ printed (codes "i__1")
          ++ return_zero ∷ []) ∷ []);
    }

-- a function with `integer b_[3];` that goes through its last element
abbrev pub great_block : CFile
great_block =
    record {
      objects = (object.Integers (codes "b_") 3 None ∷ []);
      constants = [];
      functions =
          (function_named (codes "f_") []
          (stmt.Set (expr.Index (name (codes "b_")) (whole_number 2)) (expr.Binary op.Add (expr.Index
          (name (codes "b_")) (whole_number 1)) (whole_number 1))
          ∷ stmt.Set (expr.Index (name (codes "b_")) (whole_number 0)) (expr.Binary op.Multiply
          (expr.Index (name (codes "b_")) (whole_number 2)) (expr.Index (name (codes "b_")) (whole_number
          2))) ∷ return_zero ∷ []) ∷ []);
    }

-- the same function where the block has an image
abbrev pub imaged_block : CFile
imaged_block =
    record {
      objects = (object.Integers (codes "b_") 3 (Some ((pos 1) ∷ (pos 2) ∷ [])) ∷ []);
      constants
          = [];
      functions =
          (function_named (codes "f_") []
          (stmt.Set (expr.Index (name (codes "b_")) (whole_number 0)) (expr.Binary op.Add (expr.Binary
          op.Add (expr.Index (name (codes "b_")) (whole_number 0)) (expr.Binary op.Multiply (whole_number
          10) (expr.Index (name (codes "b_")) (whole_number 1)))) (expr.Binary op.Multiply (whole_number
          100) (expr.Index (name (codes "b_")) (whole_number 2))))
          ∷ return_zero ∷ []) ∷ []);
    }

-- another image of the block
abbrev pub imaged_again : CFile
imaged_again =
    record {
      objects = (object.Integers (codes "b_") 2 (Some ((pos 3) ∷ [])) ∷ []);
      constants = [];
      functions = [];
    }

-- a main program with a parameter
abbrev pub main_with_parameters : CFile
main_with_parameters =
    file_of (record {
      result = result.Int;
      name = (codes "MAIN__");
      params = (record {
        of =
            parameter.Int;
        name = (codes "n");
      } ∷ []);
      locals = [];
      body = (return_zero ∷ []);
    } ∷ [])

-- a function under a name of the library
abbrev pub library_name : CFile
library_name =
    file_of (function_named (codes "e_wsle") [] (return_zero ∷ [])
    ∷ function_named (codes "MAIN__") [] (return_zero ∷ []) ∷ [])

-- a function that is declared and not used
abbrev pub declares_unused : CFile
declares_unused =
    file_of (function_named (codes "MAIN__") (extern_int (codes "g_") ∷ []) (return_zero ∷ []) ∷ [])

-- a missing function as an argument
abbrev pub passes_missing : CFile
passes_missing =
    file_of (record {
      result = result.Int;
      name = (codes "f_");
      params = (record {
        of =
            (parameter.Function function_type.Subroutine);
        name = (codes "g");
      } ∷ []);
      locals = [];
      body =
          (return_zero ∷ []);
    }
    ∷ function_named (codes "MAIN__")
    (extern_int (codes "g_") ∷ [])
    (do_call (codes "f_") (expr.Cast (to.Function function_type.Subroutine) (name (codes "g_")) ∷
    []) ∷ return_zero ∷ []) ∷ [])

-- a main program that returns, with an external object and local ones
abbrev pub main_with : CObject → List CLocal → CFile
main_with external locals =
    record {
      objects = (external ∷ []);
      constants = [];
      functions = (function_named (codes "MAIN__") locals (return_zero ∷ []) ∷ []);
    }

-- an external text of so many bytes
abbrev pub with_text : ℕ → CFile
with_text size = main_with (object.Chars (codes "t_") size None) []

-- so many external integers
abbrev pub with_integers : ℕ → CFile
with_integers count = main_with (object.Integers (codes "b_") count None) []

-- an external text and one in the frame of the main program
abbrev pub with_two_texts : ℕ → ℕ → CFile
with_two_texts size local_size =
    main_with (object.Chars (codes "t_") size None) (local.Chars (codes "s") local_size ∷ [])

-- `static cilist io___2 = { 0, 6, 0, m_, 0 };`
abbrev pub naming_list : CLocal
naming_list =
    local.StaticList
    Transfer
    (codes "io___2")
    (given.Number (pos 0) ∷ given.Number (pos 6) ∷ given.Number (pos 0) ∷ given.Name (codes "m_") ∷ given.Number (pos 0) ∷ [])

-- a main program in a file with `char m_[4] = "A";`, with these declarations before those of its output; it prints the
-- byte that the format of the list points to
abbrev pub prints_named : List CLocal → CFile
prints_named locals =
    record {
      objects = object.Chars (codes "m_") 4 (Some (codes "A")) ∷ [];
      constants = output_constants;
      functions =
          function_named
          (codes "MAIN__")
          (locals ++ integer (codes "i__1") ∷ output_list ∷ output_functions)
          (set
          (codes "i__1")
          (expr.Unary prefix.Deref (expr.Cast to.UnsignedChars (expr.Field (name (codes "io___2")) (codes "cifmt"))))
          ∷ printed (codes "i__1")
          ++ return_zero
          ∷ [])
          ∷ [];
    }

-- `static char m_[4] = "B";`
abbrev pub inner_text : CLocal
inner_text = local.StaticChars (codes "m_") (Some 4) (Some (codes "B"))
