-- The names that are declared where a form stands are names of C.
use Rattle.std.specs.Prelude.{◌≡◌, ℕ, Bool, true, false, not, ◌&&◌, ◌||◌, List, [], ◌∷◌, ◌++◌, bytes_eq}
use Rattle.std.specs.List.{list_all}
use Rattle.std.specs.Cmp.Lexicographic.{same_text}
use Rattle.std.proofs.Common.{refl, ap, sym, ◌∙◌, subst, cond, true≢false}
use Rattle.c_laws.specs.c_tree.declared.types.ParameterType.{ParameterType}
use Rattle.c_laws.specs.c_tree.declared.types.ParameterType.TheVariants as parameter
use Rattle.c_laws.specs.c_tree.declared.declaration.CParam.{CParam}
use Rattle.c_laws.specs.c_tree.declared.declaration.CLocal.{CLocal}
use Rattle.c_laws.specs.c_tree.declared.declaration.CLocal.TheVariants as local
use Rattle.c_laws.specs.c_tree.Tokens.{Token}
use Rattle.c_laws.specs.c_tree.CWords.{is_name, is_among}
use Rattle.c_laws.specs.c_tree.CExpressionText.{Scope}
use Rattle.c_laws.specs.c_tree.CDeclarationText.{without, hiding, with_object, with_array, with_function, with_pointer, with_declared, with_parameter, ReadsLocals, no_local, one_local, ReadsParams, no_parameter, last_parameter, one_parameter}
use Rattle.c_laws.proofs.TokenSpellings.{and-first, and-second}

abbrev pub AreNames : List (List ℕ) → Type 0
AreNames names = list_all is_name names ≡ true

pub record NamedScope (scope : Scope) : Type 0 where
  pub objects : AreNames scope.objects
  pub arrays : AreNames scope.arrays
  pub functions : AreNames scope.functions
  pub pointers : AreNames scope.pointers

-- what is among texts that pass a test passes it
pub passed_by : (test : List ℕ → Bool) (list : List (List ℕ)) (name : List ℕ) → list_all test list ≡ true → is_among name list ≡ true → test name ≡ true
passed_by test [] name all is = absurd (true≢false (sym is))
passed_by test (first ∷ later) name all is = by (bytes_eq name first) refl is (passed_by test later name (and-second (test first) (list_all test later) all))
  where
    by : (b : Bool) → bytes_eq name first ≡ b → (b || is_among name later) ≡ true → (is_among name later ≡ true → test name ≡ true) → test name ≡ true
    by true h k again = subst (λ z. test z ≡ true) (sym (same_text name first (sym h))) (and-first (test first) (list_all test later) all)
    by false h k again = again k

-- what is among names is one
pub named_among : (name : List ℕ) (names : List (List ℕ)) → AreNames names → is_among name names ≡ true → is_name name ≡ true
named_among name names all is = passed_by is_name names name all is

pub all_first : (name : List ℕ) (names : List (List ℕ)) → is_name name ≡ true → AreNames names → AreNames (name ∷ names)
all_first name names one all = ap (λ z. z && list_all is_name names) one ∙ all

pub names_append : (first second : List (List ℕ)) → AreNames first → AreNames second → AreNames (first ++ second)
names_append [] second all others = others
names_append (name ∷ first) second all others =
    all_first name (first ++ second) (and-first (is_name name) (list_all is_name first) all)
    (names_append first second (and-second (is_name name) (list_all is_name first) all) others)

without_names : (name : List ℕ) (names : List (List ℕ)) → AreNames names → AreNames (without name names)
without_names name [] all = all
without_names name (other ∷ names) all =
    by (bytes_eq name other) (and-first (is_name other) (list_all is_name names) all) (without_names name names (and-second (is_name other) (list_all is_name names) all))
  where
    by : (a : Bool) → is_name other ≡ true → AreNames (without name names) → AreNames (cond (not a) (other ∷ without name names) (without name names))
    by true one others = others
    by false one others = all_first other (without name names) one others

hiding_names : (name : List ℕ) (scope : Scope) → NamedScope scope → NamedScope (hiding name scope)
hiding_names name scope s = record {
  objects = without_names name scope.objects s.objects;
  arrays = without_names name scope.arrays s.arrays;
  functions = without_names name scope.functions s.functions;
  pointers = without_names name scope.pointers s.pointers;
}

pub object_names : (name : List ℕ) (scope : Scope) → is_name name ≡ true → NamedScope scope → NamedScope (with_object name scope)
object_names name scope is s = let h : NamedScope (hiding name scope) = hiding_names name scope s in record {
  objects = all_first name (without name scope.objects) is h.objects;
  arrays = h.arrays;
  functions = h.functions;
  pointers = h.pointers;
}

pub array_names : (name : List ℕ) (scope : Scope) → is_name name ≡ true → NamedScope scope → NamedScope (with_array name scope)
array_names name scope is s = let h : NamedScope (hiding name scope) = hiding_names name scope s in record {
  objects = all_first name (without name scope.objects) is h.objects;
  arrays = all_first name (without name scope.arrays) is h.arrays;
  functions = h.functions;
  pointers = h.pointers;
}

pub function_names : (name : List ℕ) (scope : Scope) → is_name name ≡ true → NamedScope scope → NamedScope (with_function name scope)
function_names name scope is s = let h : NamedScope (hiding name scope) = hiding_names name scope s in record {
  objects = h.objects;
  arrays = h.arrays;
  functions = all_first name (without name scope.functions) is h.functions;
  pointers = h.pointers;
}

pointer_names : (name : List ℕ) (scope : Scope) → is_name name ≡ true → NamedScope scope → NamedScope (with_pointer name scope)
pointer_names name scope is s = let h : NamedScope (hiding name scope) = hiding_names name scope s in record {
  objects = all_first name (without name scope.objects) is h.objects;
  arrays = h.arrays;
  functions = h.functions;
  pointers = all_first name (without name scope.pointers) is h.pointers;
}

pub declared_names : (one : CLocal) (name : List ℕ) (scope : Scope) → is_name name ≡ true → NamedScope scope → NamedScope (with_declared one name scope)
declared_names (local.Extern of function types) name scope is s = function_names name scope is s
declared_names (local.StaticNumber of x value) name scope is s = object_names name scope is s
declared_names (local.StaticNumbers of x n values) name scope is s = array_names name scope is s
declared_names (local.StaticChars x n text) name scope is s = array_names name scope is s
declared_names (local.StaticList of x fields) name scope is s = object_names name scope is s
declared_names (local.Number of x) name scope is s = object_names name scope is s
declared_names (local.Numbers of x n) name scope is s = object_names name scope is s
declared_names (local.Chars x n) name scope is s = object_names name scope is s
declared_names (local.Addresses x n) name scope is s = object_names name scope is s

parameter_names : (of : ParameterType) (name : List ℕ) (scope : Scope) → is_name name ≡ true → NamedScope scope → NamedScope (with_parameter of name scope)
parameter_names parameter.Integers name scope is s = object_names name scope is s
parameter_names parameter.Logicals name scope is s = object_names name scope is s
parameter_names parameter.Chars name scope is s = object_names name scope is s
parameter_names parameter.Length name scope is s = object_names name scope is s
parameter_names parameter.Int name scope is s = object_names name scope is s
parameter_names (parameter.Function type) name scope is s = pointer_names name scope is s

-- behind declarations and parameters too
pub locals_names : {scope last : Scope} {here : List (List ℕ)} {locals : List CLocal} {p q : List Token} → ReadsLocals scope here locals last p q → NamedScope scope → NamedScope last
locals_names (no_local scope here) s = s
locals_names (one_local scope last here {one = one} {name = name} d new more) s = locals_names more (declared_names one name scope new.named s)

pub params_names : {scope last : Scope} {here names : List (List ℕ)} {params : List CParam} {p q : List Token} → ReadsParams scope here params last names p q → NamedScope scope → NamedScope last
params_names (no_parameter scope here is) s = s
params_names (last_parameter scope here of name type is new) s = parameter_names of name scope new.named s
params_names (one_parameter scope last here names of name type is new comma more) s = params_names more (parameter_names of name scope new.named s)
