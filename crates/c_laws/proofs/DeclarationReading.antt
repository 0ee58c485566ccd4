-- Searches for the derivation that a text is of the subset: declarations.
use Rattle.std.specs.Prelude.{ℕ, zero, suc, pos, negsuc, List, [], ◌∷◌, ◌++◌, length, codes, Option, Some, None}
use Rattle.c_tree.specs.declared.types.NumberType.TheVariants as number
use Rattle.c_tree.specs.declared.types.ResultType.TheVariants as result
use Rattle.c_tree.specs.declared.types.ListType.TheVariants as list
use Rattle.c_tree.specs.declared.types.ParameterType.{ParameterType}
use Rattle.c_tree.specs.declared.types.ParameterType.TheVariants as parameter
use Rattle.c_tree.specs.declared.types.FunctionType.TheVariants as pointer
use Rattle.c_tree.specs.declared.types.ArgumentType.{ArgumentType}
use Rattle.c_tree.specs.declared.types.ArgumentType.TheVariants as argument
use Rattle.c_tree.specs.declared.declaration.CParam.{CParam}
use Rattle.c_tree.specs.declared.declaration.CField.TheVariants as field
use Rattle.c_tree.specs.declared.declaration.CLocal.{CLocal}
use Rattle.c_tree.specs.declared.declaration.CLocal.TheVariants as local
use Rattle.c_tree.specs.declared.file.CObject.TheVariants as object
use Rattle.c_tree.specs.Access.{fields_of}
use Rattle.c_tree.specs.Tokens.{Token, Digits}
use Rattle.c_tree.specs.CWords.{is_among, is_name, Next, AWord, ASign, Stand, result_word, number_word, list_word, parameter_tokens, argument_tokens}
use Rattle.c_tree.specs.CExpressionText.{Scope}
use Rattle.c_tree.specs.CDeclarationText.{ReadsValue, plain, negative, negative_zero, least, ReadsValues, IsLength, ReadsArray, an_array, ReadsNumbers, no_image, an_image, ReadsText, no_text, a_text, ReadsObject, integers, chars, ReadsType, ReadsTypes, no_type, some_types, ReadsField, a_value, a_string, a_start, ReadsStatic, a_static, a_static_value, a_static_array, a_static_text, a_text_of_its_length, a_list, ReadsLocal, an_extern, static, a_number, an_array_of_numbers, an_array_of_chars, an_array_of_addresses, IsNew, with_declared, with_parameter, ReadsLocals, no_local, one_local, ReadsParams, no_parameter, last_parameter, one_parameter}
use Rattle.c_laws.proofs.ExpressionReading.{◌>>=◌, otherwise, first_found, holds, fails, at_most, Found, pop_word, pop_sign, any_word, any_number, pop_number, any_string, stood, separated}

-- the value of a minus sign and a number
abbrev pub negated_by : (value : ℕ) {p q r : List Token} → ASign (codes "-") p q → Next (Digits value) q r → Option (Found ReadsValue p)
negated_by zero {r = r} a n = Some (record { tree = pos 0; rest = r; reads = negative_zero a n })
negated_by (suc m) {r = r} a n = at_most (suc m) 2147483647 >>= (λ h. Some (record { tree = negsuc m; rest = r; reads = negative m h a n }))

abbrev pub read_value : (tokens : List Token) → Option (Found ReadsValue tokens)
read_value tokens =
    first_found
    ((λ u. any_number tokens >>= (λ n. at_most n.value 2147483647 >>= (λ h. Some (record { tree = pos n.value; rest = n.rest; reads = plain n.value h n.is }))))
    ∷ (λ u. pop_sign (codes "-") tokens >>= (λ a. any_number a.rest >>= (λ n. negated_by n.value a.is n.is)))
    ∷ (λ u. pop_sign (codes "(") tokens >>= (λ a. pop_sign (codes "-") a.rest >>= (λ b. pop_number 2147483647 b.rest >>= (λ c. pop_sign (codes "-") c.rest >>= (λ d.
    pop_number 1 d.rest >>= (λ f. pop_sign (codes ")") f.rest >>= (λ g.
    Some (record { tree = negsuc 2147483647; rest = g.rest; reads = least a.is b.is c.is d.is f.is g.is }))))))))
    ∷ [])

abbrev pub read_values : ℕ → (tokens : List Token) → Option (Found ReadsValues tokens)
read_values fuel tokens = separated ReadsValue (codes "}") read_value fuel tokens

abbrev pub is_length : (n : ℕ) → Option (IsLength n)
is_length n = at_most 1 n >>= (λ h. at_most n 2147483647 >>= (λ k. Some (record { some = h; fits = k })))

-- a name with its number of elements
pub record SomeArray (tokens : List Token) : Type 0 where
  pub name : List ℕ
  pub length : ℕ
  pub rest : List Token
  pub is : ReadsArray name length tokens rest

abbrev pub any_array : (tokens : List Token) → Option (SomeArray tokens)
any_array tokens =
    any_word tokens >>= (λ w. pop_sign (codes "[") w.rest >>= (λ a. any_number a.rest >>= (λ n. is_length n.value >>= (λ h. pop_sign (codes "]") n.rest >>= (λ b.
    Some (record { name = w.text; length = n.value; rest = b.rest; is = an_array w.text n.value h w.is a.is n.is b.is }))))))

abbrev pub read_numbers : ℕ → (n : ℕ) (tokens : List Token) → Option (Found (ReadsNumbers n) tokens)
read_numbers fuel n tokens =
    otherwise
    (pop_sign (codes ";") tokens >>= (λ a. Some (record { tree = None; rest = a.rest; reads = no_image a.is })))
    (λ u. pop_sign (codes "=") tokens >>= (λ a. pop_sign (codes "{") a.rest >>= (λ b. read_values fuel b.rest >>= (λ all. at_most (length all.tree) n >>= (λ h.
    pop_sign (codes ";") all.rest >>= (λ c.
    Some (record { tree = Some all.tree; rest = c.rest; reads = an_image h a.is b.is all.reads c.is })))))))

abbrev pub read_text : (n : ℕ) (tokens : List Token) → Option (Found (ReadsText n) tokens)
read_text n tokens =
    otherwise
    (pop_sign (codes ";") tokens >>= (λ a. Some (record { tree = None; rest = a.rest; reads = no_text a.is })))
    (λ u. pop_sign (codes "=") tokens >>= (λ a. any_string a.rest >>= (λ s. at_most (length s.bytes) n >>= (λ h. pop_sign (codes ";") s.rest >>= (λ c.
    Some (record { tree = Some s.bytes; rest = c.rest; reads = a_text s.bytes h a.is s.is c.is }))))))

-- a declaration with its name
pub record FoundNamed {T : Type 0} (R : T → List ℕ → List Token → List Token → Type 0) (tokens : List Token) : Type 0 where
  pub tree : T
  pub name : List ℕ
  pub rest : List Token
  pub reads : R tree name tokens rest

abbrev pub read_object : ℕ → (tokens : List Token) → Option (FoundNamed ReadsObject tokens)
read_object fuel tokens =
    otherwise
    (pop_word (codes "integer") tokens >>= (λ a. any_array a.rest >>= (λ b. read_numbers fuel b.length b.rest >>= (λ c.
    Some (record { tree = object.Integers b.name b.length c.tree; name = b.name; rest = c.rest; reads = integers b.name b.length a.is b.is c.reads })))))
    (λ u. pop_word (codes "char") tokens >>= (λ a. any_array a.rest >>= (λ b. read_text b.length b.rest >>= (λ c.
    Some (record { tree = object.Chars b.name b.length c.tree; name = b.name; rest = c.rest; reads = chars b.name b.length a.is b.is c.reads })))))

abbrev pub type_among : List ArgumentType → (tokens : List Token) → Option (Found ReadsType tokens)
type_among [] tokens = None
type_among (of ∷ later) tokens =
    otherwise (stood (argument_tokens of) tokens >>= (λ s. Some (record { tree = of; rest = s.rest; reads = s.is }))) (λ u. type_among later tokens)

abbrev pub parameter_types : List ParameterType
parameter_types =
    parameter.Integers ∷ parameter.Logicals ∷ parameter.Chars ∷ parameter.Length ∷ parameter.Int ∷ parameter.Function pointer.Subroutine
    ∷ parameter.Function pointer.Integer ∷ parameter.Function pointer.Logical ∷ parameter.Function pointer.Unknown ∷ []

abbrev pub argument_types : List ArgumentType
argument_types =
    argument.Parameter parameter.Integers ∷ argument.Parameter parameter.Logicals ∷ argument.Parameter parameter.Chars ∷ argument.Parameter parameter.Length
    ∷ argument.Parameter parameter.Int ∷ argument.Parameter (parameter.Function pointer.Subroutine) ∷ argument.Parameter (parameter.Function pointer.Integer)
    ∷ argument.Parameter (parameter.Function pointer.Logical) ∷ argument.Parameter (parameter.Function pointer.Unknown)
    ∷ argument.List list.Transfer ∷ argument.List list.Internal ∷ argument.List list.Open ∷ argument.List list.Close ∷ argument.List list.Position
    ∷ argument.Addresses ∷ []

abbrev pub read_types : ℕ → (tokens : List Token) → Option (Found ReadsTypes tokens)
read_types fuel tokens =
    otherwise
    (pop_word (codes "void") tokens >>= (λ a. pop_sign (codes ")") a.rest >>= (λ b. Some (record { tree = []; rest = b.rest; reads = no_type a.is b.is }))))
    (λ u. separated ReadsType (codes ")") (type_among argument_types) fuel tokens >>= (λ some. Some (record { tree = some.tree; rest = some.rest; reads = some_types some.reads })))

-- a type of a result, of numbers or of a list
pub record SomeOf {T : Type 0} (word : T → List ℕ) (tokens : List Token) : Type 0 where
  pub of : T
  pub rest : List Token
  pub is : AWord (word of) tokens rest

abbrev pub of_among : {T : Type 0} (word : T → List ℕ) → List T → (tokens : List Token) → Option (SomeOf word tokens)
of_among word [] tokens = None
of_among word (of ∷ later) tokens = otherwise (pop_word (word of) tokens >>= (λ w. Some (record { of = of; rest = w.rest; is = w.is }))) (λ u. of_among word later tokens)

abbrev pub any_result : (tokens : List Token) → Option (SomeOf result_word tokens)
any_result tokens = of_among result_word (result.Int ∷ result.Integer ∷ result.Logical ∷ result.Void ∷ []) tokens

abbrev pub any_number_type : (tokens : List Token) → Option (SomeOf number_word tokens)
any_number_type tokens = of_among number_word (number.Integer ∷ number.Logical ∷ []) tokens

abbrev pub any_list_type : (tokens : List Token) → Option (SomeOf list_word tokens)
any_list_type tokens = of_among list_word (list.Transfer ∷ list.Internal ∷ list.Open ∷ list.Close ∷ list.Position ∷ []) tokens

abbrev pub is_new : (name : List ℕ) (here : List (List ℕ)) → Option (IsNew name here)
is_new name here = holds (is_name name) >>= (λ h. fails (is_among name here) >>= (λ k. Some (record { named = h; fresh = k })))

module _ (scope : Scope) where
  abbrev pub read_field : (tokens : List Token) → Option (Found (ReadsField scope) tokens)
  read_field tokens =
      first_found
      ((λ u. read_value tokens >>= (λ v. Some (record { tree = field.Number v.tree; rest = v.rest; reads = a_value v.reads })))
      ∷ (λ u. any_string tokens >>= (λ s. Some (record { tree = field.Str s.bytes; rest = s.rest; reads = a_string s.bytes s.is })))
      ∷ (λ u. any_word tokens >>= (λ w. holds (is_among w.text (scope.arrays ++ scope.functions)) >>= (λ d. Some (record { tree = field.Name w.text; rest = w.rest; reads = a_start w.text d w.is }))))
      ∷ [])

  abbrev pub read_static : ℕ → (tokens : List Token) → Option (FoundNamed (ReadsStatic scope) tokens)
  read_static fuel tokens =
      first_found
      ((λ u. any_number_type tokens >>= (λ a. any_word a.rest >>= (λ w. pop_sign (codes ";") w.rest >>= (λ b.
      Some (record { tree = local.StaticNumber a.of w.text None; name = w.text; rest = b.rest; reads = a_static a.of w.text a.is w.is b.is })))))
      ∷ (λ u. any_number_type tokens >>= (λ a. any_word a.rest >>= (λ w. pop_sign (codes "=") w.rest >>= (λ b. read_value b.rest >>= (λ v. pop_sign (codes ";") v.rest >>= (λ c.
      Some (record {
        tree = local.StaticNumber a.of w.text (Some v.tree);
        name = w.text;
        rest = c.rest;
        reads = a_static_value a.of w.text a.is w.is b.is v.reads c.is;
      })))))))
      ∷ (λ u. any_number_type tokens >>= (λ a. any_array a.rest >>= (λ b. read_numbers fuel b.length b.rest >>= (λ c.
      Some (record {
        tree = local.StaticNumbers a.of b.name b.length c.tree;
        name = b.name;
        rest = c.rest;
        reads = a_static_array a.of b.name b.length a.is b.is c.reads;
      })))))
      ∷ (λ u. pop_word (codes "char") tokens >>= (λ a. any_array a.rest >>= (λ b. read_text b.length b.rest >>= (λ c.
      Some (record {
        tree = local.StaticChars b.name (Some b.length) c.tree;
        name = b.name;
        rest = c.rest;
        reads = a_static_text b.name b.length a.is b.is c.reads;
      })))))
      ∷ (λ u. pop_word (codes "char") tokens >>= (λ a. any_word a.rest >>= (λ w. pop_sign (codes "[") w.rest >>= (λ b. pop_sign (codes "]") b.rest >>= (λ c.
      pop_sign (codes "=") c.rest >>= (λ d. any_string d.rest >>= (λ s. pop_sign (codes ";") s.rest >>= (λ f.
      Some (record {
        tree = local.StaticChars w.text None (Some s.bytes);
        name = w.text;
        rest = f.rest;
        reads = a_text_of_its_length w.text s.bytes a.is w.is b.is c.is d.is s.is f.is;
      })))))))))
      ∷ (λ u. any_list_type tokens >>= (λ a. any_word a.rest >>= (λ w. pop_sign (codes "=") w.rest >>= (λ b. pop_sign (codes "{") b.rest >>= (λ c.
      separated (ReadsField scope) (codes "}") read_field fuel c.rest >>= (λ all. at_most (length all.tree) (length (fields_of a.of)) >>= (λ h. pop_sign (codes ";") all.rest >>= (λ d.
      Some (record {
        tree = local.StaticList a.of w.text all.tree;
        name = w.text;
        rest = d.rest;
        reads = a_list a.of w.text h a.is w.is b.is c.is all.reads d.is;
      })))))))))
      ∷ [])

  abbrev pub read_local : ℕ → (tokens : List Token) → Option (FoundNamed (ReadsLocal scope) tokens)
  read_local fuel tokens =
      first_found
      ((λ u. pop_word (codes "extern") tokens >>= (λ a. any_result a.rest >>= (λ of. any_word of.rest >>= (λ w. pop_sign (codes "(") w.rest >>= (λ b.
      read_types fuel b.rest >>= (λ all. pop_sign (codes ";") all.rest >>= (λ c.
      Some (record {
        tree = local.Extern of.of w.text all.tree;
        name = w.text;
        rest = c.rest;
        reads = an_extern of.of w.text a.is of.is w.is b.is all.reads c.is;
      }))))))))
      ∷ (λ u. pop_word (codes "static") tokens >>= (λ a. read_static fuel a.rest >>= (λ one.
      Some (record { tree = one.tree; name = one.name; rest = one.rest; reads = static a.is one.reads }))))
      ∷ (λ u. any_number_type tokens >>= (λ a. any_word a.rest >>= (λ w. pop_sign (codes ";") w.rest >>= (λ b.
      Some (record { tree = local.Number a.of w.text; name = w.text; rest = b.rest; reads = a_number a.of w.text a.is w.is b.is })))))
      ∷ (λ u. any_number_type tokens >>= (λ a. any_array a.rest >>= (λ b. pop_sign (codes ";") b.rest >>= (λ c.
      Some (record { tree = local.Numbers a.of b.name b.length; name = b.name; rest = c.rest; reads = an_array_of_numbers a.of b.name b.length a.is b.is c.is })))))
      ∷ (λ u. pop_word (codes "char") tokens >>= (λ a. any_array a.rest >>= (λ b. pop_sign (codes ";") b.rest >>= (λ c.
      Some (record { tree = local.Chars b.name b.length; name = b.name; rest = c.rest; reads = an_array_of_chars b.name b.length a.is b.is c.is })))))
      ∷ (λ u. pop_word (codes "address") tokens >>= (λ a. any_array a.rest >>= (λ b. pop_sign (codes ";") b.rest >>= (λ c.
      Some (record { tree = local.Addresses b.name b.length; name = b.name; rest = c.rest; reads = an_array_of_addresses b.name b.length a.is b.is c.is })))))
      ∷ [])

-- declarations with the scope behind them
pub record FoundLocals (scope : Scope) (here : List (List ℕ)) (tokens : List Token) : Type 0 where
  pub tree : List CLocal
  pub last : Scope
  pub rest : List Token
  pub reads : ReadsLocals scope here tree last tokens rest

abbrev pub read_locals : ℕ → (scope : Scope) (here : List (List ℕ)) (tokens : List Token) → Option (FoundLocals scope here tokens)
read_locals zero scope here tokens = None
read_locals (suc fuel) scope here tokens =
    otherwise
    (read_local scope fuel tokens >>= (λ one. is_new one.name here >>= (λ h.
    read_locals fuel (with_declared one.tree one.name scope) (one.name ∷ here) one.rest >>= (λ later.
    Some (record { tree = one.tree ∷ later.tree; last = later.last; rest = later.rest; reads = one_local scope later.last here one.reads h later.reads })))))
    (λ u. Some (record { tree = []; last = scope; rest = tokens; reads = no_local scope here }))

-- parameters, at least one, with the scope and the names behind them
pub record FoundParams (scope : Scope) (here : List (List ℕ)) (tokens : List Token) : Type 0 where
  pub first : CParam
  pub later : List CParam
  pub last : Scope
  pub names : List (List ℕ)
  pub rest : List Token
  pub reads : ReadsParams scope here (first ∷ later) last names tokens rest

pub record AParameter (here : List (List ℕ)) (tokens : List Token) : Type 0 where
  pub of : ParameterType
  pub name : List ℕ
  pub middle : List Token
  pub rest : List Token
  pub typed : Stand (parameter_tokens of) tokens middle
  pub named : AWord name middle rest
  pub fresh : IsNew name here

abbrev pub parameter_among : List ParameterType → (here : List (List ℕ)) (tokens : List Token) → Option (AParameter here tokens)
parameter_among [] here tokens = None
parameter_among (of ∷ later) here tokens =
    otherwise
    (stood (parameter_tokens of) tokens >>= (λ s. any_word s.rest >>= (λ w. is_new w.text here >>= (λ h.
    Some (record { of = of; name = w.text; middle = s.rest; rest = w.rest; typed = s.is; named = w.is; fresh = h })))))
    (λ u. parameter_among later here tokens)

abbrev pub some_parameters : ℕ → (scope : Scope) (here : List (List ℕ)) (tokens : List Token) → Option (FoundParams scope here tokens)
some_parameters zero scope here tokens = None
some_parameters (suc fuel) scope here tokens =
    parameter_among parameter_types here tokens >>= (λ one. otherwise
    (pop_sign (codes ",") one.rest >>= (λ a. some_parameters fuel (with_parameter one.of one.name scope) (one.name ∷ here) a.rest >>= (λ more.
    Some (record {
      first = record { of = one.of; name = one.name };
      later = more.first ∷ more.later;
      last = more.last;
      names = more.names;
      rest = more.rest;
      reads = one_parameter scope more.last here more.names one.of one.name one.typed one.named one.fresh a.is more.reads;
    }))))
    (λ u. Some (record {
      first = record { of = one.of; name = one.name };
      later = [];
      last = with_parameter one.of one.name scope;
      names = one.name ∷ here;
      rest = one.rest;
      reads = last_parameter scope here one.of one.name one.typed one.named one.fresh;
    })))

-- the parameters of a function
pub record FoundHead (scope : Scope) (tokens : List Token) : Type 0 where
  pub tree : List CParam
  pub last : Scope
  pub names : List (List ℕ)
  pub rest : List Token
  pub reads : ReadsParams scope [] tree last names tokens rest

abbrev pub read_parameters : ℕ → (scope : Scope) (tokens : List Token) → Option (FoundHead scope tokens)
read_parameters fuel scope tokens =
    otherwise
    (pop_word (codes "void") tokens >>= (λ a. Some (record { tree = []; last = scope; names = []; rest = a.rest; reads = no_parameter scope [] a.is })))
    (λ u. some_parameters fuel scope [] tokens >>= (λ all.
    Some (record { tree = all.first ∷ all.later; last = all.last; names = all.names; rest = all.rest; reads = all.reads })))
