-- Tokens with the declarations that the readers give, or with the tokens from the offending one on. The array g lasts, and x is declared.
use Rattle.std.specs.Prelude.{◌≡◌, ℕ, ℤ, pos, negsuc, List, [], ◌∷◌, codes, Option, Some, None, Ok, Err}
use Rattle.c_readers.specs.c_tree.declared.types.NumberType.TheVariants as number
use Rattle.c_readers.specs.c_tree.declared.types.ResultType.TheVariants as result
use Rattle.c_readers.specs.c_tree.declared.types.ListType.TheVariants as list
use Rattle.c_readers.specs.c_tree.declared.types.ParameterType.TheVariants as parameter
use Rattle.c_readers.specs.c_tree.declared.types.ArgumentType.TheVariants as argument
use Rattle.c_readers.specs.c_tree.declared.declaration.CField.TheVariants as field
use Rattle.c_readers.specs.c_tree.declared.declaration.CLocal.{CLocal}
use Rattle.c_readers.specs.c_tree.declared.declaration.CLocal.TheVariants as local
use Rattle.c_readers.specs.c_tree.Tokens.{Token, Word, Digits, Quoted, Sign}
use Rattle.c_readers.specs.c_tree.CExpressionText.{Scope}
use Rattle.c_readers.specs.Readers.{Tokens}
use Rattle.c_readers.specs.DeclarationReader.{is_new, a_local}

abbrev row_scope : Scope
row_scope = record {
  objects = codes "g" ∷ codes "x" ∷ [];
  arrays = codes "g" ∷ [];
  functions = [];
  pointers = [];
}

abbrev word : List ℕ → Token
word text = Word text

abbrev sign : List ℕ → Token
sign text = Sign text

abbrev ends : Token
ends = sign (codes ";")

-- all tokens are read as a declaration of y
abbrev IsRead : Tokens → CLocal → Type 0
IsRead tokens one = a_local row_scope (is_new (codes "x" ∷ [])) 9 tokens ≡ Some (Ok ((one, codes "y"), []))

-- tokens are refused at the first of the others
abbrev IsRefused : (Tokens → Tokens) → Tokens → Type 0
IsRefused before rest = a_local row_scope (is_new (codes "x" ∷ [])) 9 (before rest) ≡ Some (Err rest)

pub record DeclarationRows : Type 0 where
  pub a_number : IsRead (word (codes "integer") ∷ word (codes "y") ∷ ends ∷ []) (local.Number number.Integer (codes "y"))
  pub an_array :
      IsRead (word (codes "char") ∷ word (codes "y") ∷ sign (codes "[") ∷ Digits 9 ∷ sign (codes "]") ∷ ends ∷ []) (local.Chars (codes "y") 9)
  pub values :
      IsRead
      (word (codes "static") ∷ word (codes "logical") ∷ word (codes "y") ∷ sign (codes "[") ∷ Digits 2 ∷ sign (codes "]") ∷ sign (codes "=")
      ∷ sign (codes "{") ∷ Digits 1 ∷ sign (codes ",") ∷ sign (codes "-") ∷ Digits 3 ∷ sign (codes "}") ∷ ends ∷ [])
      (local.StaticNumbers number.Logical (codes "y") 2 (Some (pos 1 ∷ negsuc 2 ∷ [])))
  pub least_value :
      IsRead
      (word (codes "static") ∷ word (codes "integer") ∷ word (codes "y") ∷ sign (codes "=") ∷ sign (codes "(") ∷ sign (codes "-") ∷ Digits 2147483647
      ∷ sign (codes "-") ∷ Digits 1 ∷ sign (codes ")") ∷ ends ∷ [])
      (local.StaticNumber number.Integer (codes "y") (Some (negsuc 2147483647)))
  pub text_of_its_length :
      IsRead
      (word (codes "static") ∷ word (codes "char") ∷ word (codes "y") ∷ sign (codes "[") ∷ sign (codes "]") ∷ sign (codes "=") ∷ Quoted (codes "ab") ∷ ends ∷ [])
      (local.StaticChars (codes "y") None (Some (codes "ab")))
  pub fields :
      IsRead
      (word (codes "static") ∷ word (codes "alist") ∷ word (codes "y") ∷ sign (codes "=") ∷ sign (codes "{") ∷ Digits 0 ∷ sign (codes ",") ∷ word (codes "g")
      ∷ sign (codes "}") ∷ ends ∷ [])
      (local.StaticList list.Position (codes "y") (field.Number (pos 0) ∷ field.Name (codes "g") ∷ []))
  pub a_function :
      IsRead
      (word (codes "extern") ∷ word (codes "VOID") ∷ word (codes "y") ∷ sign (codes "(") ∷ word (codes "char") ∷ sign (codes "*") ∷ sign (codes ",")
      ∷ word (codes "ftnlen") ∷ sign (codes ")") ∷ ends ∷ [])
      (local.Extern result.Void (codes "y") (argument.Parameter parameter.Chars ∷ argument.Parameter parameter.Length ∷ []))
  pub without_arguments :
      IsRead
      (word (codes "extern") ∷ word (codes "int") ∷ word (codes "y") ∷ sign (codes "(") ∷ word (codes "void") ∷ sign (codes ")") ∷ ends ∷ [])
      (local.Extern result.Int (codes "y") [])
  pub declared_twice : IsRefused (λ r. word (codes "integer") ∷ r) (word (codes "x") ∷ ends ∷ [])
  pub word_as_name : IsRefused (λ r. word (codes "integer") ∷ r) (word (codes "goto") ∷ ends ∷ [])
  pub no_element : IsRefused (λ r. word (codes "integer") ∷ word (codes "y") ∷ sign (codes "[") ∷ r) (Digits 0 ∷ sign (codes "]") ∷ ends ∷ [])
  pub value_too_many :
      IsRefused
      (λ r. word (codes "static") ∷ word (codes "integer") ∷ word (codes "y") ∷ sign (codes "[") ∷ Digits 1 ∷ sign (codes "]") ∷ sign (codes "=")
      ∷ sign (codes "{") ∷ Digits 1 ∷ r)
      (sign (codes ",") ∷ Digits 2 ∷ [])
  pub text_too_long :
      IsRefused
      (λ r. word (codes "static") ∷ word (codes "char") ∷ word (codes "y") ∷ sign (codes "[") ∷ Digits 1 ∷ sign (codes "]") ∷ sign (codes "=") ∷ r)
      (Quoted (codes "ab") ∷ ends ∷ [])
  pub length_left_out : IsRefused (λ r. word (codes "char") ∷ word (codes "y") ∷ sign (codes "[") ∷ r) (sign (codes "]") ∷ ends ∷ [])
  pub object_as_start :
      IsRefused
      (λ r. word (codes "static") ∷ word (codes "alist") ∷ word (codes "y") ∷ sign (codes "=") ∷ sign (codes "{") ∷ r)
      (word (codes "x") ∷ sign (codes "}") ∷ [])
