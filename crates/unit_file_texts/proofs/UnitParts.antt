-- Tokens that spell the parameters and the declarations of the functions of several units, the functions and their file.
use Rattle.std.specs.Prelude.{◌≡◌, ℕ, ℤ, true, List, [], ◌∷◌, ◌++◌, map, codes, Option, Some, None}
use Rattle.std.proofs.Common.{refl, sym, ap, ◌∙◌, subst}
use Rattle.std.proofs.lemmas.List.{map-append}
use Rattle.main_file_texts.specs.f_tree.Setting.{IsIn}
use Rattle.main_file_texts.specs.f_tree.Values.{in_range}
use Rattle.main_file_texts.specs.f_tree.CNames.{variable_name, made_name, FunctionResult}
use Rattle.c_spelling.specs.c_tree.declared.types.NumberType.{NumberType}
use Rattle.c_spelling.specs.c_tree.declared.types.NumberType.TheVariants as number_type
use Rattle.c_spelling.specs.c_tree.declared.declaration.CParam.{CParam}
use Rattle.c_spelling.specs.c_tree.declared.file.CConstant.{CConstant}
use Rattle.c_spelling.specs.c_tree.Tokens.{Token, Word, Sign, Including}
use Rattle.c_spelling.specs.c_tree.CWords.{parameter_tokens, result_word}
use Rattle.c_spelling.specs.c_tree.CLabels.{labels_meet}
use Rattle.c_spelling.specs.c_tree.CExpressionText.{Scope}
use Rattle.c_spelling.specs.c_tree.CStatementText.{ReadsStmts}
use Rattle.c_spelling.specs.c_tree.CDeclarationText.{IsLength, with_function, with_parameter, ReadsParams, no_parameter, last_parameter, one_parameter}
use Rattle.c_spelling.specs.c_tree.CText.{no_names, ReadsFunction, a_function, ReadsFunctions, no_function, one_function, WellFormed}
use Rattle.main_file_texts.specs.main_file.MainFile.{temporary_names}
use Rattle.unit_programs.specs.unit_file.UnitFile.{Variable, Listing, Parameter, KeptBound, Callee, Inventory, WrittenUnit, constant_for, variable_for, lists_from, temporaries_from, parameter_for, result_local, bound_name, bound_for, extern_for, unit_locals, unit_function, units_file, result_names}
use Rattle.unit_programs.specs.unit_file.UnitNames.{called_names, own_names}
use Rattle.unit_programs.specs.unit_sites.UnitSites.{inventories}
use Rattle.main_file_texts.specs.WellFormedMains.{IsSpelled}
use Rattle.main_file_texts.proofs.Declared.{local_name, local_names, with_all, with_constants, constant_texts, parameter_names, with_params, with_functions}
use Rattle.main_file_texts.proofs.Declarations.{temporary_spelled, extern_spelled, AreReadable, readable_both, temporaries_readable, variables_readable, lists_readable, temporaries_named, variables_named, lists_named, AllNew, locals_spelled, names_behind, AreThere, parts_spelled}
use Rattle.unit_file_texts.specs.WellFormedUnits.{local_words}

-- ## Names in order

-- the names behind some, the last first
abbrev pub behind : List (List ℕ) → List (List ℕ) → List (List ℕ)
behind earlier [] = earlier
behind earlier (name ∷ later) = behind (name ∷ earlier) later

pub new_first : (earlier names more : List (List ℕ)) → AllNew earlier (names ++ more) → AllNew earlier names
new_first earlier [] more new = tt
new_first earlier (name ∷ names) more new = (new.0, new_first (name ∷ earlier) names more new.1)

pub new_last : (earlier names more : List (List ℕ)) → AllNew earlier (names ++ more) → AllNew (behind earlier names) more
new_last earlier [] more new = new
new_last earlier (name ∷ names) more new = new_last (name ∷ earlier) names more new.1

behind_constants : (earlier : List (List ℕ)) (constants : List CConstant) → names_behind earlier constants ≡ behind earlier (constant_texts constants)
behind_constants earlier [] = refl
behind_constants earlier (one ∷ later) = behind_constants (one.name ∷ earlier) later

-- ## Parameters

pub params_spelled : (scope : Scope) (earlier : List (List ℕ)) (params : List CParam) → AllNew earlier (parameter_names params) → IsSpelled (ReadsParams scope earlier params (with_params scope params) (behind earlier (parameter_names params)))
params_spelled scope earlier [] new = record { from = λ after. Word (codes "void") ∷ after; reads = λ after. no_parameter scope earlier refl }
params_spelled scope earlier (p ∷ []) new =
    record { from = λ after. parameter_tokens p.of ++ Word p.name ∷ after; reads = λ after. last_parameter scope earlier p.of p.name refl refl new.0 }
params_spelled scope earlier (p ∷ next ∷ later) new =
    let rest = params_spelled (with_parameter p.of p.name scope) (p.name ∷ earlier) (next ∷ later) new.1 in
    record {
      from = λ after. parameter_tokens p.of ++ Word p.name ∷ Sign (codes ",") ∷ rest.from after;
      reads = λ after.
          one_parameter scope (with_params (with_parameter p.of p.name scope) (next ∷ later)) earlier (behind (p.name ∷ earlier) (parameter_names (next ∷ later))) p.of p.name refl refl new.0 refl (rest.reads after);
    }

pub params_named : (ps : List Parameter) → parameter_names (map parameter_for ps) ≡ map (λ (p : Parameter). variable_name p.name) ps
params_named [] = refl
params_named (p ∷ ps) = ap (λ names. variable_name p.name ∷ names) (params_named ps)

-- ## Declarations

result_readable : (returned : Option NumberType) → AreReadable (result_local returned)
result_readable None = tt
result_readable (Some type) = ((λ scope. temporary_spelled scope type (made_name FunctionResult)), tt)

bounds_readable : (bounds : List KeptBound) → AreReadable (map bound_for bounds)
bounds_readable [] = tt
bounds_readable (one ∷ bounds) = ((λ scope. temporary_spelled scope number_type.Integer (bound_name one)), bounds_readable bounds)

calls_readable : (calls : List Callee) → AreReadable (map extern_for calls)
calls_readable [] = tt
calls_readable (call ∷ calls) = ((λ scope. extern_spelled scope call.result call.name call.arguments), calls_readable calls)

pub locals_readable : (v : Inventory) → ((one : Variable) (n : ℕ) → IsIn one v.variables → one.count ≡ Some n → IsLength n) → ((l : Listing) → IsIn l v.lists → in_range l.unit ≡ true) → AreReadable (unit_locals v)
locals_readable v long short =
    readable_both (result_local v.returned) (temporaries_from 1 v.temporaries ++ (map bound_for v.bounds ++ (map extern_for v.calls ++ (map variable_for v.variables ++ lists_from 1 v.lists)))) (result_readable v.returned)
    (readable_both (temporaries_from 1 v.temporaries) (map bound_for v.bounds ++ (map extern_for v.calls ++ (map variable_for v.variables ++ lists_from 1 v.lists))) (temporaries_readable 1 v.temporaries)
    (readable_both (map bound_for v.bounds) (map extern_for v.calls ++ (map variable_for v.variables ++ lists_from 1 v.lists)) (bounds_readable v.bounds)
    (readable_both (map extern_for v.calls) (map variable_for v.variables ++ lists_from 1 v.lists) (calls_readable v.calls)
    (readable_both (map variable_for v.variables) (lists_from 1 v.lists) (variables_readable v.variables long) (lists_readable 1 v.lists short)))))

result_named : (returned : Option NumberType) → local_names (result_local returned) ≡ result_names returned
result_named None = refl
result_named (Some type) = refl

bounds_named : (bounds : List KeptBound) → local_names (map bound_for bounds) ≡ map bound_name bounds
bounds_named [] = refl
bounds_named (one ∷ bounds) = ap (λ names. bound_name one ∷ names) (bounds_named bounds)

calls_named : (calls : List Callee) → local_names (map extern_for calls) ≡ map (λ (call : Callee). call.name) calls
calls_named [] = refl
calls_named (call ∷ calls) = ap (λ names. call.name ∷ names) (calls_named calls)

pub locals_named : (v : Inventory) → local_names (unit_locals v) ≡ local_words v
locals_named v =
    map-append local_name (result_local v.returned) (temporaries_from 1 v.temporaries ++ (map bound_for v.bounds ++ (map extern_for v.calls ++ (map variable_for v.variables ++ lists_from 1 v.lists))))
    ∙ (λ i. result_named v.returned i ++ map-append local_name (temporaries_from 1 v.temporaries) (map bound_for v.bounds ++ (map extern_for v.calls ++ (map variable_for v.variables ++ lists_from 1 v.lists))) i)
    ∙ (λ i. result_names v.returned ++ (temporaries_named 1 v.temporaries i ++ map-append local_name (map bound_for v.bounds) (map extern_for v.calls ++ (map variable_for v.variables ++ lists_from 1 v.lists)) i))
    ∙ (λ i. result_names v.returned ++ (temporary_names 1 v.temporaries ++ (bounds_named v.bounds i ++ map-append local_name (map extern_for v.calls) (map variable_for v.variables ++ lists_from 1 v.lists) i)))
    ∙ (λ i. result_names v.returned ++ (temporary_names 1 v.temporaries ++ (map bound_name v.bounds ++ (calls_named v.calls i ++ map-append local_name (map variable_for v.variables) (lists_from 1 v.lists) i))))
    ∙ (λ i. result_names v.returned ++ (temporary_names 1 v.temporaries ++ (map bound_name v.bounds ++ (called_names v ++ (variables_named v.variables i ++ lists_named 1 v.lists i)))))

-- ## A function

abbrev pub params_of : WrittenUnit → List CParam
params_of w = map parameter_for w.inventory.parameters

-- the scope behind its parameters and its declarations
abbrev pub scope_within : Scope → WrittenUnit → Scope
scope_within scope w = with_all (with_params (with_function w.inventory.name scope) (params_of w)) (unit_locals w.inventory)

pub function_spelled : (scope : Scope) (w : WrittenUnit) → labels_meet w.body ≡ true → AllNew [] (parameter_names (params_of w)) → AreReadable (unit_locals w.inventory) → AllNew (behind [] (parameter_names (params_of w))) (local_names (unit_locals w.inventory))
    → IsSpelled (ReadsStmts (scope_within scope w) w.body) → IsSpelled (ReadsFunction scope (unit_function w))
function_spelled scope w meet params readable new statements =
    let entered = with_function w.inventory.name scope in
    let first = params_spelled entered [] (params_of w) params in
    let locals = locals_spelled (with_params entered (params_of w)) (behind [] (parameter_names (params_of w))) (unit_locals w.inventory) readable new in
    let body : List Token → List Token = λ after. Sign (codes ")") ∷ Sign (codes "{") ∷ locals.from (statements.from after) in
    record {
      from = λ after. Word (result_word w.inventory.result) ∷ Word w.inventory.name ∷ Sign (codes "(") ∷ first.from (body after);
      reads = λ after. a_function w.inventory.result w.inventory.name meet refl refl refl (first.reads (body after)) refl refl (locals.reads (statements.from after)) (statements.reads after);
    }

-- ## Functions in order

abbrev pub names_in : List WrittenUnit → List (List ℕ)
names_in ws = own_names (inventories ws)

pub functions_spelled : (scope : Scope) (earlier : List (List ℕ)) (ws : List WrittenUnit) → AllNew earlier (names_in ws)
    → ((before : List WrittenUnit) (w : WrittenUnit) (after : List WrittenUnit) → ws ≡ before ++ w ∷ after → IsSpelled (ReadsFunction (with_functions scope (names_in before)) (unit_function w)))
    → AreThere (ReadsFunctions scope earlier (map unit_function ws))
functions_spelled scope earlier [] new each = record { tokens = []; reads = no_function scope earlier }
functions_spelled scope earlier (w ∷ later) new each =
    let first = each [] w later refl in
    let rest = functions_spelled (with_function w.inventory.name scope) (w.inventory.name ∷ earlier) later new.1 (λ before one after same. each (w ∷ before) one after (ap (λ ws. w ∷ ws) same)) in
    record { tokens = first.from rest.tokens; reads = one_function scope earlier (first.reads rest.tokens) new.0 rest.reads }

-- ## The file

pub file_spelled : (constants : List ℤ) (ws : List WrittenUnit) → ((one : CConstant) → IsIn one (map constant_for constants) → in_range one.value ≡ true) → AllNew [] (constant_texts (map constant_for constants) ++ names_in ws)
    → ((before : List WrittenUnit) (w : WrittenUnit) (after : List WrittenUnit) → ws ≡ before ++ w ∷ after → IsSpelled (ReadsFunction (with_functions (with_constants no_names (map constant_for constants)) (names_in before)) (unit_function w)))
    → WellFormed (units_file constants ws)
file_spelled constants ws fit new each =
    let texts = constant_texts (map constant_for constants) in
    let scope = with_constants no_names (map constant_for constants) in
    let functions = functions_spelled scope (names_behind [] (map constant_for constants)) ws
    (subst (λ names. AllNew names (names_in ws)) (sym (behind_constants [] (map constant_for constants))) (new_last [] texts (names_in ws) new)) each in
    let parts = parts_spelled no_names [] (map constant_for constants) (map unit_function ws) fit (new_first [] texts (names_in ws) new) functions in
    record { tokens = Including ∷ parts.tokens; reads = record { behind = parts.tokens; including = refl; parts = parts.reads } }
