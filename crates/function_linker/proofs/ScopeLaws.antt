-- The names of a function: its parameters, and those that it declares (C89, 3.1.2.1 and 3.7.1).
use Rattle.std.proofs.Common.{◌≡◌, refl, ap, sym, ◌∙◌, subst, ℕ, ◌+◌, List, [], ◌++◌, length, None, Result, Ok, Err, OnOk}
use Rattle.c_tree.specs.declared.declaration.CParam.{CParam}
use Rattle.c_tree.specs.declared.declaration.CLocal.{CLocal}
use Rattle.c_tree.specs.Drafts.{Scope}
use Rattle.c_tree.specs.Terms.{Unknown}
use Rattle.c_tree.specs.Objects.{Object}
use Rattle.c_tree.specs.Declarations.{declared_parameters, declared_statics, declared_automatics, declared_externs}
use Rattle.c_tree.specs.Linking.{Routines, known_objects, known_functions, lasting, local_scope}
use Rattle.first_names.specs.FirstNames.{first_of}
use Rattle.first_names.specs.declared.FirstNames.{FirstNames}
use Rattle.expression_linker.specs.NamesInScope.{term_or, scope_of}
use Rattle.expression_linker.specs.declared.scope.NameScope.{NameScope}
use Rattle.expression_linker.specs.declared.things.NamedThing.{NamedThing}
use Rattle.declared_names.specs.Hiding.{Hides}
use Rattle.function_linker.specs.LinkedFunctions.{file_names}
use Rattle.function_linker.specs.NamesBehind.{around, scope_behind, GivesNames}
use Rattle.function_linker.specs.declared.numbers.NextNumbers.{NextNumbers}
use Rattle.function_linker.proofs.NameLaws.{same-scope, objects-append, scope-behind}

-- parameters that have their objects, and those that are left
pub record Passed (a b : FirstNames NamedThing) (first next : ℕ) (all left : List CParam) : Type 0 where
  pub names : (outer : Scope) (q : List ℕ) → term_or (first_of a q) (known_objects first (declared_parameters all) outer q) ≡ term_or (first_of b q) (known_objects next (declared_parameters left) outer q)
  pub count : first + length (declared_parameters all) ≡ next + length (declared_parameters left)

-- a function's names as its declarations begin: its parameters, around which its file's names are known
pub record Entered (base place : ℕ) (params : List CParam) (start : NextNumbers) (before names : NameScope) : Type 0 where
  pub lasting : (q : List ℕ) → first_of names.lasting q ≡ None
  pub frame : (outer : Scope) (q : List ℕ) → known_objects place (declared_parameters params) outer q ≡ term_or (first_of names.frame q) (outer q)
  pub functions : (q : List ℕ) → first_of names.functions q ≡ None
  pub file : (q : List ℕ) → first_of names.file q ≡ first_of before.file q
  pub first : start.lasting ≡ base
  pub behind : start.frame ≡ place + length (declared_parameters params)

pub cleared-hides : (a b : FirstNames NamedThing) (inner : Scope → Scope) → ((q : List ℕ) → first_of a q ≡ None) → Hides a b inner → (outer : Scope) (q : List ℕ) → inner outer q ≡ term_or (first_of b q) (outer q)
cleared-hides a b inner none hides outer q = sym (ap (λ found. term_or found (inner outer q)) (none q)) ∙ hides outer q

pub names-in : (numbers : Routines) (base frame : ℕ) (params : List CParam) (start : NextNumbers) (before names : NameScope) → Entered base frame params start before names → (given : List CLocal) →
    scope_behind numbers names start given ≡ local_scope numbers base frame params (file_names before) given
unfolding scope_behind
names-in numbers base frame params start before names entered given =
    let statics = declared_statics given in
    let automatics = declared_automatics given in
    let externs = declared_externs given in
    let parameters = declared_parameters params in
    let file : file_names names ≡ file_names before = same-scope _ _ (λ q. ap (λ found. term_or found Unknown) (entered.file q)) in
    let functions : Scope = known_functions numbers externs (file_names before) in
    let inside : around names.functions (known_functions numbers externs (file_names names)) ≡ functions =
    same-scope _ _
    (λ q.
    ap (λ found. term_or found (known_functions numbers externs (file_names names) q)) (entered.functions q)
    ∙ ap (λ (outer : Scope). known_functions numbers externs outer q) file) in
    let middle : around names.frame (known_objects start.frame automatics (around names.functions (known_functions numbers externs (file_names names)))) ≡ known_objects frame (parameters ++ automatics) functions =
    same-scope _ _
    (λ q.
    sym (entered.frame (known_objects start.frame automatics (around names.functions (known_functions numbers externs (file_names names)))) q)
    ∙ ap (λ (outer : Scope). known_objects frame parameters (known_objects start.frame automatics outer) q) inside
    ∙ ap (λ n. known_objects frame parameters (known_objects n automatics functions) q) entered.behind
    ∙ sym (objects-append frame parameters automatics functions q)) in
    same-scope _ _
    (λ q.
    ap (λ found. term_or found (known_objects start.lasting statics (around names.frame (known_objects start.frame automatics (around names.functions (known_functions numbers externs (file_names names))))) q)) (entered.lasting q)
    ∙ ap (λ (outer : Scope). known_objects start.lasting statics outer q) middle
    ∙ ap (λ n. known_objects n statics (known_objects frame (parameters ++ automatics) functions) q) entered.first)

pub all-names-in : (numbers : Routines) (base frame : ℕ) (params : List CParam) (start : NextNumbers) (before names : NameScope) → Entered base frame params start before names →
    scope_behind numbers names start ≡ local_scope numbers base frame params (file_names before)
all-names-in numbers base frame params start before names entered = λ k given. names-in numbers base frame params start before names entered given k

-- a function's names once its parameters have their objects
pub entered : (base place behind string : ℕ) (params ps : List CParam) (before a : NameScope) (b : FirstNames NamedThing) → ((q : List ℕ) → first_of a.lasting q ≡ None) → ((q : List ℕ) → first_of a.frame q ≡ None) → ((q : List ℕ) → first_of a.functions q ≡ None) →
    ((q : List ℕ) → first_of a.file q ≡ first_of before.file q) → ps ≡ params → Hides a.frame b (known_objects place (declared_parameters ps)) → behind ≡ place + length (declared_parameters ps) →
    Entered base place params (record { lasting = base; string = string; frame = behind }) before (record a { frame = b })
entered base place behind string params ps before a b lasting frame functions file same hides count = record {
  lasting = lasting;
  frame =
      λ outer q.
      cleared-hides a.frame b (known_objects place (declared_parameters params)) frame (subst (λ zs. Hides a.frame b (known_objects place (declared_parameters zs))) same hides) outer q;
  functions = functions;
  file = file;
  first = refl;
  behind = count ∙ ap (λ zs. place + length (declared_parameters zs)) same;
}

pub objects-in : (numbers : Routines) (base place : ℕ) (params : List CParam) (start : NextNumbers) (before names : NameScope) (locals given : List CLocal) (had have : List Object) → Entered base place params start before names → given ≡ locals →
    have ≡ had ++ lasting (scope_behind numbers names start) start.string [] given → have ≡ had ++ lasting (local_scope numbers base place params (file_names before)) start.string [] locals
objects-in numbers base place params start before names locals given had have entered same put =
    put
    ∙ ap (λ (scope : List CLocal → Scope). had ++ lasting scope start.string [] given) (all-names-in numbers base place params start before names entered)
    ∙ ap (λ zs. had ++ lasting (local_scope numbers base place params (file_names before)) start.string [] zs) same

pub scope-in : (numbers : Routines) (base place : ℕ) (params : List CParam) (start : NextNumbers) (before names now : NameScope) (locals given : List CLocal) → Entered base place params start before names → given ≡ locals →
    GivesNames numbers start given names now → scope_of now ≡ local_scope numbers base place params (file_names before) locals
scope-in numbers base place params start before names now locals given entered same gives =
    scope-behind numbers start given names now gives
    ∙ names-in numbers base place params start before names entered given
    ∙ ap (λ zs. local_scope numbers base place params (file_names before) zs) same

-- what holds of a result that is there
pub on-ok : {A B T E : Type 0} (r : Result T E) → (A → B) → OnOk r A → OnOk r B
on-ok (Ok value) f h = f h
on-ok (Err failure) f h = h
