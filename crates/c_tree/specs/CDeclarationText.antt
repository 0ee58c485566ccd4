-- Which declaration some tokens spell (C89, 3.5 and 3.7.2): one case for each production, with the symbols of the
-- production in their order.
use Rattle.std.specs.Prelude.{◌≡◌, ℕ, suc, ◌≤◌, ℤ, pos, negsuc, true, false, not, filter, List, [], ◌∷◌, ◌++◌, length, codes, bytes_eq, Option, Some, None}
use Rattle.c_tree.specs.declared.types.NumberType.{NumberType}
use Rattle.c_tree.specs.declared.types.ResultType.{ResultType}
use Rattle.c_tree.specs.declared.types.ListType.{ListType}
use Rattle.c_tree.specs.declared.types.ParameterType.{ParameterType}
use Rattle.c_tree.specs.declared.types.ParameterType.TheVariants as parameter
use Rattle.c_tree.specs.declared.types.ArgumentType.{ArgumentType}
use Rattle.c_tree.specs.declared.declaration.CParam.{CParam}
use Rattle.c_tree.specs.declared.declaration.CField.{CField}
use Rattle.c_tree.specs.declared.declaration.CField.TheVariants as field
use Rattle.c_tree.specs.declared.declaration.CLocal.{CLocal}
use Rattle.c_tree.specs.declared.declaration.CLocal.TheVariants as local
use Rattle.c_tree.specs.declared.file.CObject.{CObject}
use Rattle.c_tree.specs.declared.file.CObject.TheVariants as object
use Rattle.c_tree.specs.Tokens.{Token, Digits, Quoted}
use Rattle.c_tree.specs.CWords.{is_among, is_name, Next, AWord, ASign, Stand, Separated, result_word, number_word, list_word, parameter_tokens, argument_tokens}
use Rattle.c_tree.specs.Access.{fields_of}
use Rattle.c_tree.specs.CExpressionText.{Scope}

-- a value (C89, 3.5.7): a number with or without a sign, or the least integer
pub data ReadsValue : ℤ → List Token → List Token → Type 0 where
  plain : (n : ℕ) {p q : List Token} → n ≤ 2147483647 → Next (Digits n) p q → ReadsValue (pos n) p q
  negative : (n : ℕ) {p q r : List Token} → suc n ≤ 2147483647 → ASign (codes "-") p q → Next (Digits (suc n)) q r → ReadsValue (negsuc n) p r
  negative_zero : {p q r : List Token} → ASign (codes "-") p q → Next (Digits 0) q r → ReadsValue (pos 0) p r
  least : {p q r s t u v : List Token}
      → ASign (codes "(") p q → ASign (codes "-") q r → Next (Digits 2147483647) r s → ASign (codes "-") s t → Next (Digits 1) t u → ASign (codes ")") u v
      → ReadsValue (negsuc 2147483647) p v

-- the values of an image in braces, up to its closing brace
abbrev pub ReadsValues : List ℤ → List Token → List Token → Type 0
ReadsValues values p q = Separated ReadsValue (codes "}") values p q

-- the number of elements of an array
pub record IsLength (n : ℕ) : Type 0 where
  pub some : 1 ≤ n
  pub fits : n ≤ 2147483647

-- a name with its number of elements
pub data ReadsArray : List ℕ → ℕ → List Token → List Token → Type 0 where
  an_array : (name : List ℕ) (n : ℕ) {p q r s t : List Token} → IsLength n
      → AWord name p q → ASign (codes "[") q r → Next (Digits n) r s → ASign (codes "]") s t → ReadsArray name n p t

-- what may stand behind an array of numbers: its end, or an image in braces that is no longer
pub data ReadsNumbers (n : ℕ) : Option (List ℤ) → List Token → List Token → Type 0 where
  no_image : {p q : List Token} → ASign (codes ";") p q → ReadsNumbers n None p q
  an_image : {values : List ℤ} {p q r s t : List Token} → length values ≤ n
      → ASign (codes "=") p q → ASign (codes "{") q r → ReadsValues values r s → ASign (codes ";") s t → ReadsNumbers n (Some values) p t

-- what may stand behind an array of characters: its end, or a string that is no longer
pub data ReadsText (n : ℕ) : Option (List ℕ) → List Token → List Token → Type 0 where
  no_text : {p q : List Token} → ASign (codes ";") p q → ReadsText n None p q
  a_text : (bytes : List ℕ) {p q r s : List Token} → length bytes ≤ n
      → ASign (codes "=") p q → Next (Quoted bytes) q r → ASign (codes ";") r s → ReadsText n (Some bytes) p s

-- an external object, with its name
pub data ReadsObject : CObject → List ℕ → List Token → List Token → Type 0 where
  integers : (name : List ℕ) (n : ℕ) {image : Option (List ℤ)} {p q r s : List Token}
      → AWord (codes "integer") p q → ReadsArray name n q r → ReadsNumbers n image r s → ReadsObject (object.Integers name n image) name p s
  chars : (name : List ℕ) (n : ℕ) {image : Option (List ℕ)} {p q r s : List Token}
      → AWord (codes "char") p q → ReadsArray name n q r → ReadsText n image r s → ReadsObject (object.Chars name n image) name p s

abbrev pub ReadsType : ArgumentType → List Token → List Token → Type 0
ReadsType of p q = Stand (argument_tokens of) p q

-- the types of the arguments of a declared function, up to the closing parenthesis
pub data ReadsTypes : List ArgumentType → List Token → List Token → Type 0 where
  no_type : {p q r : List Token} → AWord (codes "void") p q → ASign (codes ")") q r → ReadsTypes [] p r
  some_types : {types : List ArgumentType} {p q : List Token} → Separated ReadsType (codes ")") types p q → ReadsTypes types p q

-- a field of a list block: a value, a string, or an address constant: the name of an array that lasts or of a function
-- (C89, 3.4)
pub data ReadsField (scope : Scope) : CField → List Token → List Token → Type 0 where
  a_value : {value : ℤ} {p q : List Token} → ReadsValue value p q → ReadsField scope (field.Number value) p q
  a_string : (bytes : List ℕ) {p q : List Token} → Next (Quoted bytes) p q → ReadsField scope (field.Str bytes) p q
  a_start : (name : List ℕ) {p q : List Token} → is_among name (scope.arrays ++ scope.functions) ≡ true → AWord name p q → ReadsField scope (field.Name name) p q

-- the fields, up to the closing brace
abbrev pub ReadsFields : Scope → List CField → List Token → List Token → Type 0
ReadsFields scope fields p q = Separated (ReadsField scope) (codes "}") fields p q

-- what stands behind `static`, with the name that it declares
pub data ReadsStatic (scope : Scope) : CLocal → List ℕ → List Token → List Token → Type 0 where
  a_static : (of : NumberType) (name : List ℕ) {p q r s : List Token}
      → AWord (number_word of) p q → AWord name q r → ASign (codes ";") r s → ReadsStatic scope (local.StaticNumber of name None) name p s
  a_static_value : (of : NumberType) (name : List ℕ) {value : ℤ} {p q r s t u : List Token}
      → AWord (number_word of) p q → AWord name q r → ASign (codes "=") r s → ReadsValue value s t → ASign (codes ";") t u
      → ReadsStatic scope (local.StaticNumber of name (Some value)) name p u
  a_static_array : (of : NumberType) (name : List ℕ) (n : ℕ) {image : Option (List ℤ)} {p q r s : List Token}
      → AWord (number_word of) p q → ReadsArray name n q r → ReadsNumbers n image r s → ReadsStatic scope (local.StaticNumbers of name n image) name p s
  a_static_text : (name : List ℕ) (n : ℕ) {image : Option (List ℕ)} {p q r s : List Token}
      → AWord (codes "char") p q → ReadsArray name n q r → ReadsText n image r s → ReadsStatic scope (local.StaticChars name (Some n) image) name p s
  a_text_of_its_length : (name bytes : List ℕ) {p q r s t u v w : List Token}
      → AWord (codes "char") p q → AWord name q r → ASign (codes "[") r s → ASign (codes "]") s t → ASign (codes "=") t u → Next (Quoted bytes) u v → ASign (codes ";") v w
      → ReadsStatic scope (local.StaticChars name None (Some bytes)) name p w
  a_list : (of : ListType) (name : List ℕ) {fields : List CField} {p q r s t u v : List Token}
      → length fields ≤ length (fields_of of)
      → AWord (list_word of) p q → AWord name q r → ASign (codes "=") r s → ASign (codes "{") s t → ReadsFields scope fields t u → ASign (codes ";") u v
      → ReadsStatic scope (local.StaticList of name fields) name p v

-- a declaration at the head of a function, with the name that it declares
pub data ReadsLocal (scope : Scope) : CLocal → List ℕ → List Token → List Token → Type 0 where
  an_extern : (of : ResultType) (name : List ℕ) {types : List ArgumentType} {p q r s t u v : List Token}
      → AWord (codes "extern") p q → AWord (result_word of) q r → AWord name r s → ASign (codes "(") s t → ReadsTypes types t u → ASign (codes ";") u v
      → ReadsLocal scope (local.Extern of name types) name p v
  static : {one : CLocal} {name : List ℕ} {p q r : List Token} → AWord (codes "static") p q → ReadsStatic scope one name q r → ReadsLocal scope one name p r
  a_number : (of : NumberType) (name : List ℕ) {p q r s : List Token}
      → AWord (number_word of) p q → AWord name q r → ASign (codes ";") r s → ReadsLocal scope (local.Number of name) name p s
  an_array_of_numbers : (of : NumberType) (name : List ℕ) (n : ℕ) {p q r s : List Token}
      → AWord (number_word of) p q → ReadsArray name n q r → ASign (codes ";") r s → ReadsLocal scope (local.Numbers of name n) name p s
  an_array_of_chars : (name : List ℕ) (n : ℕ) {p q r s : List Token}
      → AWord (codes "char") p q → ReadsArray name n q r → ASign (codes ";") r s → ReadsLocal scope (local.Chars name n) name p s
  an_array_of_addresses : (name : List ℕ) (n : ℕ) {p q r s : List Token}
      → AWord (codes "address") p q → ReadsArray name n q r → ASign (codes ";") r s → ReadsLocal scope (local.Addresses name n) name p s

-- a name that may be declared: a name, and not declared in the same scope
pub record IsNew (name : List ℕ) (here : List (List ℕ)) : Type 0 where
  pub named : is_name name ≡ true
  pub fresh : is_among name here ≡ false

-- the other names
abbrev pub without : List ℕ → List (List ℕ) → List (List ℕ)
without name names = filter (λ other. not (bytes_eq name other)) names

-- the scope in which a name stands for nothing
abbrev pub hiding : List ℕ → Scope → Scope
hiding name scope = record {
  objects = without name scope.objects;
  arrays = without name scope.arrays;
  functions = without name scope.functions;
  pointers = without name scope.pointers;
}

-- the scope with an object or a function, which hides what has the name outside
abbrev pub with_object : List ℕ → Scope → Scope
with_object name scope = let outer = hiding name scope in record outer { objects = name ∷ outer.objects }

abbrev pub with_array : List ℕ → Scope → Scope
with_array name scope = let outer = hiding name scope in record outer { objects = name ∷ outer.objects; arrays = name ∷ outer.arrays }

abbrev pub with_function : List ℕ → Scope → Scope
with_function name scope = let outer = hiding name scope in record outer { functions = name ∷ outer.functions }

abbrev pub with_pointer : List ℕ → Scope → Scope
with_pointer name scope = let outer = hiding name scope in record outer { objects = name ∷ outer.objects; pointers = name ∷ outer.pointers }

-- the scope with the name that a declaration declares
abbrev pub with_declared : CLocal → List ℕ → Scope → Scope
with_declared (local.Extern of function types) name scope = with_function name scope
with_declared (local.StaticNumbers of array n image) name scope = with_array name scope
with_declared (local.StaticChars array n text) name scope = with_array name scope
with_declared other name scope = with_object name scope

-- the scope with a parameter
abbrev pub with_parameter : ParameterType → List ℕ → Scope → Scope
with_parameter (parameter.Function type) name scope = with_pointer name scope
with_parameter other name scope = with_object name scope

-- declarations in order, given the names declared in this function so far, with the scope behind them
pub data ReadsLocals : Scope → List (List ℕ) → List CLocal → Scope → List Token → List Token → Type 0 where
  no_local : (scope : Scope) (here : List (List ℕ)) {p : List Token} → ReadsLocals scope here [] scope p p
  one_local : (scope last : Scope) (here : List (List ℕ)) {one : CLocal} {name : List ℕ} {later : List CLocal} {p q r : List Token}
      → ReadsLocal scope one name p q → IsNew name here → ReadsLocals (with_declared one name scope) (name ∷ here) later last q r
      → ReadsLocals scope here (one ∷ later) last p r

-- the parameters of a function in order, given the names declared so far, with the scope and the names behind them
pub data ReadsParams : Scope → List (List ℕ) → List CParam → Scope → List (List ℕ) → List Token → List Token → Type 0 where
  no_parameter : (scope : Scope) (here : List (List ℕ)) {p q : List Token} → AWord (codes "void") p q → ReadsParams scope here [] scope here p q
  last_parameter : (scope : Scope) (here : List (List ℕ)) (of : ParameterType) (name : List ℕ) {p q r : List Token}
      → Stand (parameter_tokens of) p q → AWord name q r → IsNew name here
      → ReadsParams scope here (record { of = of; name = name } ∷ []) (with_parameter of name scope) (name ∷ here) p r
  one_parameter : (scope last : Scope) (here names : List (List ℕ)) (of : ParameterType) (name : List ℕ) {next : CParam} {later : List CParam} {p q r s t : List Token}
      → Stand (parameter_tokens of) p q → AWord name q r → IsNew name here → ASign (codes ",") r s
      → ReadsParams (with_parameter of name scope) (name ∷ here) (next ∷ later) last names s t
      → ReadsParams scope here (record { of = of; name = name } ∷ next ∷ later) last names p t
