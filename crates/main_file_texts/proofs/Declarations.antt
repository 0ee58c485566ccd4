-- Tokens that spell the declarations of a main program, its function and its file.
use Rattle.std.specs.Prelude.{◌≡◌, ◌≢◌, ℕ, zero, suc, ◌≤◌, nat_eq, nat_le, ℤ, pos, negsuc, Bool, true, false, ◌&&◌, List, [], ◌∷◌, ◌++◌, map, codes, Option, Some, None, bytes_eq}
use Rattle.std.proofs.Common.{refl, sym, ap, ◌∙◌, subst, arith}
use Rattle.std.proofs.lemmas.Bool.{leb-true, eqb-true, eqb-false}
use Rattle.std.proofs.lemmas.List.{map-append}
use Rattle.main_translation_laws.specs.f_tree.Setting.{IsIn, first_in, later_in}
use Rattle.main_translation_laws.specs.f_tree.Values.{in_range}
use Rattle.main_translation_laws.specs.f_tree.CNames.{variable_name, made_name, NumberTemporary, ControlList}
use Rattle.main_translation_laws.specs.c_tree.declared.types.NumberType.{NumberType}
use Rattle.main_translation_laws.specs.c_tree.declared.types.NumberType.TheVariants as number_type
use Rattle.main_translation_laws.specs.c_tree.declared.types.ResultType.{ResultType}
use Rattle.main_translation_laws.specs.c_tree.declared.types.ResultType.TheVariants as result
use Rattle.main_translation_laws.specs.c_tree.declared.types.ArgumentType.{ArgumentType}
use Rattle.main_translation_laws.specs.c_tree.declared.types.ListType.TheVariants as list_type
use Rattle.main_translation_laws.specs.c_tree.declared.declaration.CField.TheVariants as field
use Rattle.main_translation_laws.specs.c_tree.declared.declaration.CLocal.{CLocal}
use Rattle.main_translation_laws.specs.c_tree.declared.declaration.CLocal.TheVariants as local
use Rattle.main_translation_laws.specs.c_tree.declared.statement.CStmt.{CStmt}
use Rattle.main_translation_laws.specs.c_tree.declared.file.CConstant.{CConstant}
use Rattle.main_translation_laws.specs.c_tree.declared.file.CFunction.{CFunction}
use Rattle.main_translation_laws.specs.c_tree.Tokens.{Token, Word, Digits, Sign, Including}
use Rattle.main_translation_laws.specs.c_tree.CWords.{Separated, last_item, one_item, is_among, is_name, number_word, result_word, list_word, argument_tokens}
use Rattle.main_translation_laws.specs.c_tree.CLabels.{labels_meet}
use Rattle.main_translation_laws.specs.c_tree.CExpressionText.{Scope}
use Rattle.main_translation_laws.specs.c_tree.CStatementText.{ReadsStmts}
use Rattle.main_translation_laws.specs.c_tree.CDeclarationText.{ReadsValue, plain, negative, least, IsLength, an_array, no_image, ReadsType, ReadsTypes, no_type, some_types, ReadsField, a_value, a_static, a_static_array, a_list, ReadsLocal, an_extern, static, a_number, IsNew, with_object, with_function, with_declared, ReadsLocals, no_local, one_local, no_parameter}
use Rattle.main_translation_laws.specs.c_tree.CText.{ReadsFunction, a_function, ReadsFunctions, no_function, one_function, ReadsConstant, a_constant, ReadsParts, only_functions, one_constant, no_names, WellFormed}
use Rattle.main_translation_laws.specs.main_file.MainFile.{Variable, Listing, Called, Inventory, variable_by, variable_for, constant_for, list_for, lists_from, temporaries_from, call_for, main_locals, main_function, main_file, list_names, temporary_names, called_names}
use Rattle.main_translation_laws.specs.c_tree.Linking.{main_name}
use Rattle.main_translation_laws.proofs.Lists.{AreApart, none_apart, one_apart}
use Rattle.main_file_texts.specs.WellFormedMains.{IsSpelled}
use Rattle.main_file_texts.proofs.Declared.{none_left, none_right, none_both, none_among, local_name, local_names, with_all, with_constants, constant_texts}

-- ## Values

value_spelled : (z : ℤ) → in_range z ≡ true → IsSpelled (ReadsValue z)
unfolding in_range
value_spelled (pos n) holds = let small = leb-true n 2147483647 holds in record { from = λ behind. Digits n ∷ behind; reads = λ behind. plain n small refl }
value_spelled (negsuc n) holds = by (nat_le n 2147483647) refl holds
  where
    least_by : (m : ℕ) → m ≡ 2147483647 → IsSpelled (ReadsValue (negsuc m))
    least_by m same =
        subst (λ k. IsSpelled (ReadsValue (negsuc k))) (sym same)
        (record {
          from = λ behind. Sign (codes "(") ∷ Sign (codes "-") ∷ Digits 2147483647 ∷ Sign (codes "-") ∷ Digits 1 ∷ Sign (codes ")") ∷ behind;
          reads = λ behind. least refl refl refl refl refl refl;
        })

    other : (b : Bool) → nat_eq n 2147483647 ≡ b → n ≤ 2147483647 → IsSpelled (ReadsValue (negsuc n))
    other true is small = least_by n (eqb-true n 2147483647 is)
    other false is small =
        let differs = eqb-false n 2147483647 is in
        let less : suc n ≤ 2147483647 = omega (arith, small, differs) in
        record { from = λ behind. Sign (codes "-") ∷ Digits (suc n) ∷ behind; reads = λ behind. negative n less refl refl }

    by : (b : Bool) → nat_le n 2147483647 ≡ b → (b && true) ≡ true → IsSpelled (ReadsValue (negsuc n))
    by true is h = other (nat_eq n 2147483647) refl (leb-true n 2147483647 is)
    by false is h = absurd (cc)

-- ## Declarations

pub temporary_spelled : (scope : Scope) (of : NumberType) (name : List ℕ) → IsSpelled (ReadsLocal scope (local.Number of name) name)
temporary_spelled scope of name = record { from = λ behind. Word (number_word of) ∷ Word name ∷ Sign (codes ";") ∷ behind; reads = λ behind. a_number of name refl refl refl }

types_separated : (of : ArgumentType) (types : List ArgumentType) → IsSpelled (Separated ReadsType (codes ")") (of ∷ types))
types_separated of [] = record { from = λ behind. argument_tokens of ++ Sign (codes ")") ∷ behind; reads = λ behind. last_item refl refl }
types_separated of (next ∷ types) =
    let later = types_separated next types in
    record { from = λ behind. argument_tokens of ++ Sign (codes ",") ∷ later.from behind; reads = λ behind. one_item refl refl (later.reads behind) }

types_spelled : (types : List ArgumentType) → IsSpelled (ReadsTypes types)
types_spelled [] = record { from = λ behind. Word (codes "void") ∷ Sign (codes ")") ∷ behind; reads = λ behind. no_type refl refl }
types_spelled (of ∷ types) = let all = types_separated of types in record { from = all.from; reads = λ behind. some_types (all.reads behind) }

pub extern_spelled : (scope : Scope) (of : ResultType) (name : List ℕ) (types : List ArgumentType) → IsSpelled (ReadsLocal scope (local.Extern of name types) name)
extern_spelled scope of name types =
    let all = types_spelled types in
    record {
      from = λ behind. Word (codes "extern") ∷ Word (result_word of) ∷ Word name ∷ Sign (codes "(") ∷ all.from (Sign (codes ";") ∷ behind);
      reads = λ behind. an_extern of name refl refl refl refl (all.reads (Sign (codes ";") ∷ behind)) refl;
    }

variable_spelled : (scope : Scope) (of : NumberType) (name : List ℕ) (count : Option ℕ) → ((n : ℕ) → count ≡ Some n → IsLength n) → IsSpelled (ReadsLocal scope (variable_by of name count) (local_name (variable_by of name count)))
variable_spelled scope of name None fits = record {
  from = λ behind. Word (codes "static") ∷ Word (number_word of) ∷ Word name ∷ Sign (codes ";") ∷ behind;
  reads = λ behind. static refl (a_static of name refl refl refl);
}
variable_spelled scope of name (Some n) fits = record {
  from = λ behind. Word (codes "static") ∷ Word (number_word of) ∷ Word name ∷ Sign (codes "[") ∷ Digits n ∷ Sign (codes "]") ∷ Sign (codes ";") ∷ behind;
  reads = λ behind. static refl (a_static_array of name n refl (an_array name n (fits n refl) refl refl refl refl) (no_image refl));
}

zero_spelled : IsSpelled (ReadsValue (pos 0))
zero_spelled = record { from = λ behind. Digits 0 ∷ behind; reads = λ behind. plain 0 (omega arith) refl }

fields_spelled : (scope : Scope) (unit : ℤ) → in_range unit ≡ true
    → IsSpelled (Separated (ReadsField scope) (codes "}") (field.Number (pos 0) ∷ field.Number unit ∷ field.Number (pos 0) ∷ field.Number (pos 0) ∷ field.Number (pos 0) ∷ []))
fields_spelled scope unit fits =
    let one = value_spelled unit fits in
    let nought = zero_spelled in
    let comma : List Token → List Token = λ behind. Sign (codes ",") ∷ behind in
    let last : List Token → List Token = λ behind. nought.from (Sign (codes "}") ∷ behind) in
    let fourth : List Token → List Token = λ behind. nought.from (comma (last behind)) in
    let third : List Token → List Token = λ behind. nought.from (comma (fourth behind)) in
    let second : List Token → List Token = λ behind. one.from (comma (third behind)) in
    record {
      from = λ behind. nought.from (comma (second behind));
      reads = λ behind.
          one_item (a_value (nought.reads (comma (second behind)))) refl
          (one_item (a_value (one.reads (comma (third behind)))) refl
          (one_item (a_value (nought.reads (comma (fourth behind)))) refl (one_item (a_value (nought.reads (comma (last behind)))) refl (last_item (a_value (nought.reads (Sign (codes "}") ∷ behind))) refl))));
    }

list_spelled : (scope : Scope) (k : ℕ) (l : Listing) → in_range l.unit ≡ true → IsSpelled (ReadsLocal scope (list_for k l) (local_name (list_for k l)))
list_spelled scope k l fits =
    let fields = fields_spelled scope l.unit fits in
    record {
      from = λ behind. Word (codes "static") ∷ Word (list_word list_type.Transfer) ∷ Word (made_name (ControlList k)) ∷ Sign (codes "=") ∷ Sign (codes "{") ∷ fields.from (Sign (codes ";") ∷ behind);
      reads = λ behind. static refl (a_list list_type.Transfer (made_name (ControlList k)) (omega arith) refl refl refl refl (fields.reads (Sign (codes ";") ∷ behind)) refl);
    }

-- ## Declarations in order

abbrev pub AreReadable : List CLocal → Type 0
AreReadable [] = Unit {0}
AreReadable (one ∷ later) = ((scope : Scope) → IsSpelled (ReadsLocal scope one (local_name one))) × AreReadable later

pub readable_both : (xs ys : List CLocal) → AreReadable xs → AreReadable ys → AreReadable (xs ++ ys)
readable_both [] ys one other = other
readable_both (x ∷ xs) ys one other = (one.0, readable_both xs ys one.1 other)

pub temporaries_readable : (k n : ℕ) → AreReadable (temporaries_from k n)
temporaries_readable k zero = tt
temporaries_readable k (suc n) = ((λ scope. temporary_spelled scope number_type.Integer (made_name (NumberTemporary k))), temporaries_readable (suc k) n)

calls_readable : (calls : List Called) → AreReadable (map call_for calls)
calls_readable [] = tt
calls_readable (call ∷ calls) = ((λ scope. extern_spelled scope call.result call.name call.arguments), calls_readable calls)

pub variables_readable : (vs : List Variable) → ((one : Variable) (n : ℕ) → IsIn one vs → one.count ≡ Some n → IsLength n) → AreReadable (map variable_for vs)
variables_readable [] fit = tt
variables_readable (v ∷ vs) fit = ((λ scope. variable_spelled scope v.type (variable_name v.name) v.count (λ n is. fit v n first_in is)), variables_readable vs (λ one n o. fit one n (later_in o)))

pub lists_readable : (k : ℕ) (ls : List Listing) → ((l : Listing) → IsIn l ls → in_range l.unit ≡ true) → AreReadable (lists_from k ls)
lists_readable k [] fit = tt
lists_readable k (l ∷ ls) fit = ((λ scope. list_spelled scope k l (fit l first_in)), lists_readable (suc k) ls (λ m o. fit m (later_in o)))

pub locals_readable : (v : Inventory) → ((one : Variable) (n : ℕ) → IsIn one v.variables → one.count ≡ Some n → IsLength n) → ((l : Listing) → IsIn l v.lists → in_range l.unit ≡ true) → AreReadable (main_locals v)
locals_readable v fit fit' =
    readable_both (temporaries_from 1 v.temporaries) (map call_for v.calls ++ (map variable_for v.variables ++ lists_from 1 v.lists)) (temporaries_readable 1 v.temporaries)
    (readable_both (map call_for v.calls) (map variable_for v.variables ++ lists_from 1 v.lists) (calls_readable v.calls)
    (readable_both (map variable_for v.variables) (lists_from 1 v.lists) (variables_readable v.variables fit) (lists_readable 1 v.lists fit')))

-- ## Their names

pub temporaries_named : (k n : ℕ) → local_names (temporaries_from k n) ≡ temporary_names k n
temporaries_named k zero = refl
temporaries_named k (suc n) = ap (λ names. made_name (NumberTemporary k) ∷ names) (temporaries_named (suc k) n)

calls_named : (calls : List Called) → local_names (map call_for calls) ≡ map (λ (call : Called). call.name) calls
calls_named [] = refl
calls_named (call ∷ calls) = ap (λ names. call.name ∷ names) (calls_named calls)

variable_named : (of : NumberType) (name : List ℕ) (count : Option ℕ) → local_name (variable_by of name count) ≡ name
variable_named of name None = refl
variable_named of name (Some n) = refl

pub variables_named : (vs : List Variable) → local_names (map variable_for vs) ≡ map (λ (one : Variable). variable_name one.name) vs
variables_named [] = refl
variables_named (v ∷ vs) = λ i. variable_named v.type (variable_name v.name) v.count i ∷ variables_named vs i

pub lists_named : (k : ℕ) (ls : List Listing) → local_names (lists_from k ls) ≡ list_names k ls
lists_named k [] = refl
lists_named k (l ∷ ls) = ap (λ names. made_name (ControlList k) ∷ names) (lists_named (suc k) ls)

pub locals_named : (v : Inventory) → local_names (main_locals v) ≡ temporary_names 1 v.temporaries ++ (called_names v ++ (map (λ (one : Variable). variable_name one.name) v.variables ++ list_names 1 v.lists))
locals_named v =
    map-append local_name (temporaries_from 1 v.temporaries) (map call_for v.calls ++ (map variable_for v.variables ++ lists_from 1 v.lists))
    ∙ (λ i. temporaries_named 1 v.temporaries i ++ map-append local_name (map call_for v.calls) (map variable_for v.variables ++ lists_from 1 v.lists) i)
    ∙ (λ i. temporary_names 1 v.temporaries ++ (calls_named v.calls i ++ map-append local_name (map variable_for v.variables) (lists_from 1 v.lists) i))
    ∙ (λ i. temporary_names 1 v.temporaries ++ (called_names v ++ (variables_named v.variables i ++ lists_named 1 v.lists i)))

-- each name is one, and none stands twice
abbrev pub AllNew : List (List ℕ) → List (List ℕ) → Type 0
AllNew earlier [] = Unit {0}
AllNew earlier (name ∷ later) = IsNew name earlier × AllNew (name ∷ earlier) later

pub all_new : (earlier names : List (List ℕ)) → ((name : List ℕ) → IsIn name names → is_name name ≡ true) → AreApart names → ((x y : List ℕ) → IsIn x names → IsIn y earlier → x ≢ y) → AllNew earlier names
all_new earlier [] words none_apart differ = tt
all_new earlier (name ∷ later) words (one_apart none rest) differ =
    (record { named = words name first_in; fresh = none_among name earlier (λ y o. differ name y first_in o) }, all_new (name ∷ earlier) later (λ n o. words n (later_in o)) rest (λ x y p q. by x y p q))
  where
    by : (x y : List ℕ) → IsIn x later → IsIn y (name ∷ earlier) → x ≢ y
    by x _ p first_in = λ same. none x p (sym same)
    by x y p (later_in q) = differ x y (later_in p) q

pub locals_spelled : (scope : Scope) (earlier : List (List ℕ)) (ones : List CLocal) → AreReadable ones → AllNew earlier (local_names ones) → IsSpelled (ReadsLocals scope earlier ones (with_all scope ones))
locals_spelled scope earlier [] readable new = record { from = λ behind. behind; reads = λ behind. no_local scope earlier }
locals_spelled scope earlier (one ∷ later) readable new =
    let first = readable.0 scope in
    let rest = locals_spelled (with_declared one (local_name one) scope) (local_name one ∷ earlier) later readable.1 new.1 in
    record {
      from = λ behind. first.from (rest.from behind);
      reads = λ behind. one_local scope (with_all (with_declared one (local_name one) scope) later) earlier (first.reads (rest.from behind)) new.0 (rest.reads behind);
    }

-- ## The function

pub function_spelled : (scope : Scope) (v : Inventory) (body : List CStmt) → labels_meet body ≡ true → AreReadable (main_locals v) → AllNew [] (local_names (main_locals v))
    → IsSpelled (ReadsStmts (with_all (with_function main_name scope) (main_locals v)) body) → IsSpelled (ReadsFunction scope (main_function v body))
function_spelled scope v body meet readable new statements =
    let locals = locals_spelled (with_function main_name scope) [] (main_locals v) readable new in
    record {
      from = λ behind. Word (codes "int") ∷ Word main_name ∷ Sign (codes "(") ∷ Word (codes "void") ∷ Sign (codes ")") ∷ Sign (codes "{") ∷ locals.from (statements.from behind);
      reads = λ behind.
          a_function result.Int main_name meet refl refl refl (no_parameter (with_function main_name scope) [] refl) refl refl (locals.reads (statements.from behind)) (statements.reads behind);
    }

-- ## The file

abbrev pub names_behind : List (List ℕ) → List CConstant → List (List ℕ)
names_behind earlier [] = earlier
names_behind earlier (one ∷ later) = names_behind (one.name ∷ earlier) later

pub none_named : (x : List ℕ) (earlier : List (List ℕ)) (constants : List CConstant) → is_among x earlier ≡ false → is_among x (constant_texts constants) ≡ false → is_among x (names_behind earlier constants) ≡ false
none_named x earlier [] one other = one
none_named x earlier (c ∷ later) one other =
    none_named x (c.name ∷ earlier) later (none_both (bytes_eq x c.name) (is_among x earlier) (none_left (bytes_eq x c.name) (is_among x (constant_texts later)) other) one) (none_right (bytes_eq x c.name) (is_among x (constant_texts later)) other)

-- some tokens are read in a way
pub record AreThere (Reads : List Token → Type 0) : Type 0 where
  pub tokens : List Token
  pub reads : Reads tokens

constant_spelled : (one : CConstant) → in_range one.value ≡ true → IsSpelled (ReadsConstant one)
constant_spelled one fits =
    let value = value_spelled one.value fits in
    record {
      from = λ behind. Word (codes "static") ∷ Word (codes "integer") ∷ Word one.name ∷ Sign (codes "=") ∷ value.from (Sign (codes ";") ∷ behind);
      reads = λ behind. a_constant one.name refl refl refl refl (value.reads (Sign (codes ";") ∷ behind)) refl;
    }

pub parts_spelled : (scope : Scope) (earlier : List (List ℕ)) (constants : List CConstant) (functions : List CFunction) → ((one : CConstant) → IsIn one constants → in_range one.value ≡ true) → AllNew earlier (constant_texts constants)
    → AreThere (ReadsFunctions (with_constants scope constants) (names_behind earlier constants) functions) → AreThere (ReadsParts scope earlier [] constants functions)
parts_spelled scope earlier [] functions fit new rest = record { tokens = rest.tokens; reads = only_functions scope earlier rest.reads }
parts_spelled scope earlier (one ∷ later) functions fit new rest =
    let first = constant_spelled one (fit one first_in) in
    let others = parts_spelled (with_object one.name scope) (one.name ∷ earlier) later functions (λ c o. fit c (later_in o)) new.1 rest in
    record { tokens = first.from others.tokens; reads = one_constant scope earlier (first.reads others.tokens) new.0 others.reads }

pub file_spelled : (v : Inventory) (body : List CStmt) → ((one : CConstant) → IsIn one (map constant_for v.constants) → in_range one.value ≡ true) → AllNew [] (constant_texts (map constant_for v.constants))
    → is_among main_name (constant_texts (map constant_for v.constants)) ≡ false → IsSpelled (ReadsFunction (with_constants no_names (map constant_for v.constants)) (main_function v body)) → WellFormed (main_file v body)
file_spelled v body fit new other function =
    let scope = with_constants no_names (map constant_for v.constants) in
    let earlier = names_behind [] (map constant_for v.constants) in
    let parts = parts_spelled no_names [] (map constant_for v.constants) (main_function v body ∷ []) fit new
    (record {
      tokens = function.from [];
      reads = one_function scope earlier (function.reads []) (record { named = refl; fresh = none_named main_name [] (map constant_for v.constants) refl other }) (no_function (with_function main_name scope) (main_name ∷ earlier));
    }) in
    record { tokens = Including ∷ parts.tokens; reads = record { behind = parts.tokens; including = refl; parts = parts.reads } }
