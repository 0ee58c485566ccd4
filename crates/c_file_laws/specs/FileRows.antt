-- Tokens behind the include line with the files that the reader gives, or with the tokens from the offending one on.
use Rattle.std.specs.Prelude.{◌≡◌, ℕ, pos, false, List, [], ◌∷◌, codes, Some, None, Ok, Err}
use Rattle.c_file_readers.specs.c_tree.declared.types.NumberType.TheVariants as number
use Rattle.c_file_readers.specs.c_tree.declared.types.ResultType.TheVariants as result
use Rattle.c_file_readers.specs.c_tree.declared.types.ParameterType.TheVariants as parameter
use Rattle.c_file_readers.specs.c_tree.declared.expression.CExpr.TheVariants as expr
use Rattle.c_file_readers.specs.c_tree.declared.declaration.CLocal.TheVariants as local
use Rattle.c_file_readers.specs.c_tree.declared.statement.CStmt.{CStmt}
use Rattle.c_file_readers.specs.c_tree.declared.statement.CStmt.TheVariants as stmt
use Rattle.c_file_readers.specs.c_tree.declared.file.CObject.TheVariants as object
use Rattle.c_file_readers.specs.c_tree.declared.file.CConstant.{CConstant}
use Rattle.c_file_readers.specs.c_tree.declared.file.CFunction.{CFunction}
use Rattle.c_file_readers.specs.c_tree.declared.file.CFile.{CFile}
use Rattle.c_file_readers.specs.c_tree.Tokens.{Token, Word, Digits, Quoted, Sign, Including}
use Rattle.c_file_readers.specs.c_readers.Readers.{Tokens}
use Rattle.c_file_readers.specs.FileReader.{no_parts, a_file}

abbrev word : List ℕ → Token
word text = Word text

abbrev sign : List ℕ → Token
sign text = Sign text

abbrev integer : Token
integer = word (codes "integer")

abbrev static : Token
static = word (codes "static")

abbrev ends : Token
ends = sign (codes ";")

abbrev opens : Token
opens = sign (codes "(")

abbrev closes : Token
closes = sign (codes ")")

abbrev begins : Token
begins = sign (codes "{")

abbrev stops : Token
stops = sign (codes "}")

-- the array a of two integers, the constant c of value 1, and a function of no parameters up to its statements
abbrev an_array : Tokens → Tokens
an_array rest = integer ∷ word (codes "a") ∷ sign (codes "[") ∷ Digits 2 ∷ sign (codes "]") ∷ ends ∷ rest

abbrev a_constant : Tokens → Tokens
a_constant rest = static ∷ integer ∷ word (codes "c") ∷ sign (codes "=") ∷ Digits 1 ∷ ends ∷ rest

abbrev a_function : List ℕ → Tokens → Tokens
a_function name rest = word (codes "VOID") ∷ word name ∷ opens ∷ word (codes "void") ∷ closes ∷ begins ∷ rest

abbrev constant : CConstant
constant = record { name = codes "c"; value = pos 1 }

abbrev function : List ℕ → List CStmt → CFunction
function name body = record { result = result.Void; name = name; params = []; locals = []; body = body }

-- all tokens behind the include line are read as a file
abbrev IsRead : Tokens → CFile → Type 0
IsRead tokens file = a_file 9 (Including ∷ tokens) ≡ Some (Ok (file, []))

-- tokens behind the include line are refused at the first of the others, or at the end of all
abbrev IsRefused : (Tokens → Tokens) → Tokens → Type 0
IsRefused before rest = a_file 9 (Including ∷ before rest) ≡ Some (Err rest)

pub record FileRows : Type 0 where
  pub nothing : a_file 9 [] ≡ Some (Err [])
  pub without_the_include_line : a_file 9 (integer ∷ Including ∷ []) ≡ Some (Err (integer ∷ Including ∷ []))
  pub include_line_alone : IsRead [] no_parts
  pub each_part :
      IsRead (an_array (a_constant (a_function (codes "f") (word (codes "return") ∷ ends ∷ stops ∷ []))))
      (record {
        objects = object.Integers (codes "a") 2 None ∷ [];
        constants = constant ∷ [];
        functions = function (codes "f") (stmt.Return None ∷ []) ∷ [];
      })
  pub text_as_start :
      IsRead (word (codes "char") ∷ word (codes "a") ∷ sign (codes "[") ∷ Digits 3 ∷ sign (codes "]") ∷ sign (codes "=") ∷ Quoted (codes "ab") ∷ ends ∷ [])
      (record { objects = object.Chars (codes "a") 3 (Some (codes "ab")) ∷ []; constants = []; functions = [] })
  -- a parameter hides the constant, and the function calls itself
  pub parameter_and_call :
      IsRead
      (a_constant (integer ∷ word (codes "f") ∷ opens ∷ word (codes "int") ∷ word (codes "c") ∷ closes ∷ begins ∷ integer ∷ word (codes "x") ∷ ends
      ∷ word (codes "x") ∷ sign (codes "=") ∷ word (codes "f") ∷ opens ∷ word (codes "c") ∷ closes ∷ ends ∷ stops ∷ []))
      (record {
        objects = [];
        constants = constant ∷ [];
        functions =
            record {
              result = result.Integer;
              name = codes "f";
              params = record { of = parameter.Int; name = codes "c" } ∷ [];
              locals = local.Number number.Integer (codes "x") ∷ [];
              body = stmt.SetCall (expr.Name (codes "x")) (record { through = false; name = codes "f"; arguments = expr.Name (codes "c") ∷ [] }) ∷ [];
            }
            ∷ [];
      })
  pub array_behind_a_constant : IsRefused (λ r. a_constant (integer ∷ word (codes "a") ∷ r)) (sign (codes "[") ∷ Digits 2 ∷ sign (codes "]") ∷ ends ∷ [])
  pub characters_behind_a_constant : IsRefused (λ r. a_constant r) (word (codes "char") ∷ word (codes "a") ∷ sign (codes "[") ∷ [])
  pub constant_behind_a_function : IsRefused (λ r. a_function (codes "f") (stops ∷ r)) (a_constant [])
  pub array_behind_a_function : IsRefused (λ r. a_function (codes "f") (stops ∷ integer ∷ word (codes "a") ∷ r)) (sign (codes "[") ∷ Digits 2 ∷ [])
  pub word_as_name_of_an_array : IsRefused (λ r. integer ∷ r) (word (codes "goto") ∷ sign (codes "[") ∷ Digits 2 ∷ [])
  pub constant_of_a_name_that_is_taken : IsRefused (λ r. an_array (static ∷ integer ∷ r)) (word (codes "a") ∷ sign (codes "=") ∷ Digits 1 ∷ ends ∷ [])
  pub function_of_a_name_that_is_taken : IsRefused (λ r. a_constant (word (codes "VOID") ∷ r)) (word (codes "c") ∷ opens ∷ word (codes "void") ∷ closes ∷ [])
  pub call_of_a_later_function : IsRefused (λ r. a_function (codes "f") (word (codes "g") ∷ r)) (opens ∷ closes ∷ ends ∷ stops ∷ a_function (codes "g") (stops ∷ []))
  pub goto_of_no_label : IsRefused (λ r. a_function (codes "f") (word (codes "goto") ∷ word (codes "L1") ∷ ends ∷ r)) (stops ∷ [])
  pub function_without_its_end : IsRefused (λ r. a_function (codes "f") r) []
