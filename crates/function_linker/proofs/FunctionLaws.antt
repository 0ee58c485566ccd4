-- A function and the objects that it adds, put together.
use Rattle.std.proofs.Common.{◌≡◌, refl, ap, sym, ◌∙◌, subst, ℕ, true, Result, Ok, Err, IsErrAnd, List, [], ◌++◌, map, append_assoc}
use Rattle.std.proofs.lemmas.Result.{err_from_is_err_and}
use Rattle.c_tree.specs.declared.file.CFunction.{CFunction}
use Rattle.c_tree.specs.declared.statement.CStmt.{CStmt}
use Rattle.expression_linker.specs.LinkedParts.{Links}
use Rattle.expression_linker.specs.declared.failure.LinkFail.{LinkFail}
use Rattle.expression_linker.specs.declared.failure.LinkFail.TheVariants as fail
use Rattle.linked_terms.specs.LinkedItems.{flat_of}
use Rattle.linked_programs.specs.LinkedPrograms.{object_of, function_of}
use Rattle.linked_programs.specs.declared.functions.LinkedFunction as made
use Rattle.linked_programs.specs.declared.objects.LinkedObject.{LinkedObject}
use Rattle.function_linker.specs.LinkedFunctions.{LinksFunction}
use Rattle.c_tree.specs.Objects.{Object}
use Rattle.c_tree.specs.Flat.{Flat}
use Rattle.c_tree.specs.Drafts.{Scope}
use Rattle.c_tree.specs.FlatForm.{whole_body, flat_form}
use Rattle.c_tree.specs.Declarations.{string_object}
use Rattle.c_tree.specs.Linking.{Routines, Function, linked_function, lasting, local_scope, parameter_types}
use Rattle.flat_linker.specs.LostNames.{some_lost}
use Rattle.function_linker.specs.FrameParts.{strings_in, first_string, body_string, first_of_call}
use Rattle.function_linker.specs.FreshObjects.{parameter_objects, automatic_objects}
use Rattle.function_linker.proofs.FreshLaws.{fresh-in}

regrouped : (had l s f : List Object) → ((had ++ l) ++ s) ++ f ≡ had ++ ((l ++ s) ++ f)
regrouped had l s f = ap (λ zs. zs ++ f) (append_assoc had l s) ∙ append_assoc had (l ++ s) f

objects-put : (numbers : Routines) (own base : ℕ) (outer : Scope) (function : CFunction) (had one two all fresh : List Object) →
    one ≡ had ++ lasting (local_scope numbers base (first_of_call base function) function.params outer) (first_string base function) [] function.locals → two ≡ one ++ map string_object (strings_in function) →
    fresh ≡ parameter_objects function.params ++ automatic_objects function.locals → all ≡ two ++ fresh → all ≡ had ++ (linked_function numbers own outer base function).objects
unfolding first_of_call first_string strings_in
objects-put numbers own base outer function had one two all fresh first second third fourth =
    let l = lasting (local_scope numbers base (first_of_call base function) function.params outer) (first_string base function) [] function.locals in
    let s = map string_object (strings_in function) in
    let inner = local_scope numbers base (first_of_call base function) function.params outer in
    fourth
    ∙ ap (λ zs. zs ++ fresh) second
    ∙ ap (λ zs. (zs ++ s) ++ fresh) first
    ∙ regrouped had l s fresh
    ∙ ap (λ zs. had ++ ((l ++ s) ++ zs)) (third ∙ sym (fresh-in (inner function.locals) function.params function.locals))

pub objects-at : (numbers : Routines) (own b base string place : ℕ) (outer : Scope) (function : CFunction) (had one two all fresh : List Object) → b ≡ base → string ≡ first_string b function → place ≡ first_of_call b function →
    one ≡ had ++ lasting (local_scope numbers b place function.params outer) string [] function.locals → two ≡ one ++ map string_object (strings_in function) →
    fresh ≡ parameter_objects function.params ++ automatic_objects function.locals → all ≡ two ++ fresh → all ≡ had ++ (linked_function numbers own outer base function).objects
objects-at numbers own b base string place outer function had one two all fresh at_b at_string at_place first second third fourth =
    objects-put numbers own base outer function had one two all fresh
    (first
    ∙ ap (λ n. had ++ lasting (local_scope numbers b place function.params outer) n [] function.locals) at_string
    ∙ ap (λ n. had ++ lasting (local_scope numbers b n function.params outer) (first_string b function) [] function.locals) at_place
    ∙ ap (λ n. had ++ lasting (local_scope numbers n (first_of_call n function) function.params outer) (first_string n function) [] function.locals) at_b)
    second third fourth

pub fresh-made : (numbers : Routines) (own base : ℕ) (outer : Scope) (function : CFunction) (fresh : List Object) → fresh ≡ parameter_objects function.params ++ automatic_objects function.locals → fresh ≡ (linked_function numbers own outer base function).function.fresh
fresh-made numbers own base outer function fresh is = is ∙ sym (fresh-in _ function.params function.locals)

code-is : (numbers : Routines) (own base body : ℕ) (outer scope : Scope) (function : CFunction) → scope ≡ local_scope numbers base (first_of_call base function) function.params outer function.locals → body ≡ body_string base function →
    flat_form (whole_body function.body) scope body ≡ (linked_function numbers own outer base function).function.code
unfolding first_of_call first_string strings_in body_string
code-is numbers own base body outer scope function at_scope at_body =
    ap (λ (names : Scope). flat_form (whole_body function.body) names body) at_scope
    ∙ ap (λ n. flat_form (whole_body function.body) (local_scope numbers base (first_of_call base function) function.params outer function.locals) n) at_body

pub code-lost : (numbers : Routines) (own base body : ℕ) (outer scope : Scope) (function : CFunction) → scope ≡ local_scope numbers base (first_of_call base function) function.params outer function.locals → body ≡ body_string base function →
    some_lost (flat_form (whole_body function.body) scope body) ≡ true → some_lost (linked_function numbers own outer base function).function.code ≡ true
code-lost numbers own base body outer scope function at_scope at_body lost = ap some_lost (sym (code-is numbers own base body outer scope function at_scope at_body)) ∙ lost

frame-is : (numbers : Routines) (own base : ℕ) (outer : Scope) (function : CFunction) → first_of_call base function ≡ (linked_function numbers own outer base function).function.frame
unfolding first_of_call first_string strings_in
frame-is numbers own base outer function = refl

pub function-made : (numbers : Routines) (own base body first : ℕ) (outer scope : Scope) (function : CFunction) (fresh : List Object) (code : List Flat) (whole : Function) →
    scope ≡ local_scope numbers base (first_of_call base function) function.params outer function.locals → body ≡ body_string base function → first ≡ first_of_call base function →
    fresh ≡ (linked_function numbers own outer base function).function.fresh → code ≡ flat_form (whole_body function.body) scope body →
    whole ≡ record { name = function.name; result = function.result; parameters = parameter_types function.params; frame = first; fresh = fresh; code = code; own = own } →
    whole ≡ (linked_function numbers own outer base function).function
function-made numbers own base body first outer scope function fresh code whole at_scope at_body at_first at_fresh at_code is =
    is
    ∙ ap (λ n. record { name = function.name; result = function.result; parameters = parameter_types function.params; frame = n; fresh = fresh; code = code; own = own }) (at_first ∙ frame-is numbers own base outer function)
    ∙ ap (λ zs. record { name = function.name; result = function.result; parameters = parameter_types function.params; frame = (linked_function numbers own outer base function).function.frame; fresh = zs; code = code; own = own }) at_fresh
    ∙ ap (λ zs. record { name = function.name; result = function.result; parameters = parameter_types function.params; frame = (linked_function numbers own outer base function).function.frame; fresh = (linked_function numbers own outer base function).function.fresh; code = zs; own = own })
    (at_code ∙ code-is numbers own base body outer scope function at_scope at_body)

-- what link_body says of the code, said of the function's statements
list-is : (list : List CStmt) (function : CFunction) (scope : Scope) (body : ℕ) → list ≡ function.body → flat_form (whole_body list) scope body ≡ flat_form (whole_body function.body) scope body
list-is list function scope body same = ap (λ zs. flat_form (whole_body zs) scope body) same

lost_function : (numbers : Routines) (own base body : ℕ) (outer scope : Scope) (function : CFunction) (list : List CStmt) (before after : List LinkedObject) (e : LinkFail) →
    scope ≡ local_scope numbers base (first_of_call base function) function.params outer function.locals → body ≡ body_string base function → list ≡ function.body →
    Links (map flat_of) some_lost (Err e) (flat_form (whole_body list) scope body) → LinksFunction own (Err e) (linked_function numbers own outer base function) before after
lost_function numbers own base body outer scope function list before after fail.Unknown at_scope at_body same lost =
    code-lost numbers own base body outer scope function at_scope at_body (ap some_lost (sym (list-is list function scope body same)) ∙ lost)
lost_function numbers own base body outer scope function list before after fail.Memory at_scope at_body same lost = tt

pub function-lost : (r : Result made.LinkedFunction LinkFail) (numbers : Routines) (own base body : ℕ) (outer scope : Scope) (function : CFunction) (list : List CStmt) (before after : List LinkedObject) (e : LinkFail) →
    scope ≡ local_scope numbers base (first_of_call base function) function.params outer function.locals → body ≡ body_string base function → list ≡ function.body → IsErrAnd r (λ f. f ≡ e) →
    Links (map flat_of) some_lost (Err e) (flat_form (whole_body list) scope body) → LinksFunction own r (linked_function numbers own outer base function) before after
function-lost r numbers own base body outer scope function list before after e at_scope at_body same is lost =
    let p = err_from_is_err_and r is in
    let error : r ≡ Err e = p.1 ∙ ap Err p.2 in
    subst (λ w. LinksFunction own w (linked_function numbers own outer base function) before after) (sym error)
    (lost_function numbers own base body outer scope function list before after e at_scope at_body same lost)

-- what they say of a function with its code
pub function-linked : (numbers : Routines) (own base body : ℕ) (outer scope : Scope) (function : CFunction) (list : List CStmt) (before after : List LinkedObject) (fresh : List Object) (code : List Flat) (linked : made.LinkedFunction) (first : ℕ) →
    scope ≡ local_scope numbers base (first_of_call base function) function.params outer function.locals → body ≡ body_string base function → first ≡ first_of_call base function → list ≡ function.body →
    fresh ≡ (linked_function numbers own outer base function).function.fresh → map object_of after ≡ map object_of before ++ (linked_function numbers own outer base function).objects → code ≡ flat_form (whole_body list) scope body →
    function_of own linked ≡ record { name = function.name; result = function.result; parameters = parameter_types function.params; frame = first; fresh = fresh; code = code; own = own } →
    LinksFunction own (Ok linked) (linked_function numbers own outer base function) before after
function-linked numbers own base body outer scope function list before after fresh code linked first at_scope at_body at_first same at_fresh objects at_code is =
    (function-made numbers own base body first outer scope function fresh code (function_of own linked) at_scope at_body at_first at_fresh (at_code ∙ list-is list function scope body same) is, objects)
