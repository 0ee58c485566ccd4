-- What the names of a text's scope stand for where a function is linked: each object is known, and each function that is
-- mentioned is one of the program or the library.
use Rattle.std.specs.Prelude.{◌≡◌, ℕ, true, false, ◌||◌, List, [], ◌∷◌, ◌++◌, codes, is_none, bytes_eq}
use Rattle.std.proofs.Common.{refl, sym, subst, ap, ◌∙◌}
use Rattle.std.proofs.lemmas.List.Folds.{list_any-append}
use Rattle.c_laws.specs.c_tree.declared.types.ParameterType.{ParameterType}
use Rattle.c_laws.specs.c_tree.declared.types.ParameterType.TheVariants as parameter
use Rattle.c_laws.specs.c_tree.declared.declaration.CParam.{CParam}
use Rattle.c_laws.specs.c_tree.declared.declaration.CLocal.{CLocal}
use Rattle.c_laws.specs.c_tree.Tokens.{Token}
use Rattle.c_laws.specs.c_tree.CWords.{is_among}
use Rattle.c_laws.specs.c_tree.CExpressionText as text
use Rattle.c_laws.specs.c_tree.CDeclarationText as declaration
use Rattle.c_laws.specs.c_tree.CDeclarationText.{IsNew, without, hiding, with_object, with_array, with_function, with_pointer, with_declared, with_parameter}
use Rattle.c_laws.specs.c_tree.Drafts.{Scope}
use Rattle.c_laws.specs.c_tree.Declarations.{Declared, declared_parameters, declared_statics, declared_automatics, declared_externs}
use Rattle.c_laws.specs.c_tree.Linking.{Routines, known_objects, known_functions}
use Rattle.c_totality.specs.Sound.{IsKnown}
use Rattle.c_totality.proofs.ListLaws.{among-or, among-without, both-ways, or-left, or-right, or-of-left, or-of-right, or-false, same-names, name-itself, IsOther, is-other}
use Rattle.c_totality.proofs.FlatSound.{IsRoutine, NamesKnown}
use Rattle.c_totality.proofs.ScopeSound.{names_of, objects-known, objects-past, functions-routine, functions-known, statics-stand, parameters-stand, automatics-stand, both-stand, parameter_names, objects_named, no-object, none-named, names-of-append, names-of-parameters}

-- where a function is linked
pub record Linkage : Type 0 where
  pub numbers : Routines
  pub base : ℕ
  pub frame : ℕ
  pub params : List CParam
  pub locals : List CLocal
  pub outer : Scope

abbrev pub framed : Linkage → List Declared
framed at = declared_parameters at.params ++ declared_automatics at.locals

abbrev pub behind_frame : Linkage → Scope
behind_frame at = known_functions at.numbers (declared_externs at.locals) at.outer

abbrev pub behind_statics : Linkage → Scope
behind_statics at = known_objects at.frame (framed at) (behind_frame at)

abbrev pub scope_of : Linkage → Scope
scope_of at = known_objects at.base (declared_statics at.locals) (behind_statics at)

-- a name that is mentioned: if it is declared by `extern`, there is such a function
abbrev pub IsMentioned : Linkage → List ℕ → Type 0
IsMentioned at name = is_among name (declared_externs at.locals) ≡ true → is_none (at.numbers name) ≡ false

-- what the names outside the function are known as
pub record OutsideKnown (of : text.Scope) (outer : Scope) : Type 0 where
  pub objects : (name : List ℕ) → is_among name of.objects ≡ true → IsKnown (outer name)
  pub functions : (name : List ℕ) → is_among name of.functions ≡ true → IsRoutine (outer name)
  pub pointers : (name : List ℕ) → is_among name of.pointers ≡ true → IsKnown (outer name)
  pub truths : (name : List ℕ) → is_among name (codes "TRUE_" ∷ codes "FALSE_" ∷ []) ≡ true → IsKnown (outer name)

pub local-known : (at : Linkage) (name : List ℕ) → IsMentioned at name →
    (is_among name (names_of (declared_statics at.locals)) ≡ false → is_among name (names_of (framed at)) ≡ false → IsKnown (at.outer name)) → IsKnown (scope_of at name)
local-known at name found rest =
    objects-known at.base (declared_statics at.locals) (behind_statics at) name (statics-stand at.locals) (λ s.
    objects-known at.frame (framed at) (behind_frame at) name (both-stand (declared_parameters at.params) (declared_automatics at.locals) (parameters-stand at.params) (automatics-stand at.locals)) (λ f.
    functions-known at.numbers (declared_externs at.locals) at.outer name found (λ e. rest s f)))

pub local-routine : (at : Linkage) (name : List ℕ) → IsMentioned at name → is_among name (names_of (declared_statics at.locals)) ≡ false → is_among name (names_of (framed at)) ≡ false →
    (is_among name (declared_externs at.locals) ≡ false → IsRoutine (at.outer name)) → IsRoutine (scope_of at name)
local-routine at name found s f rest =
    subst IsRoutine (sym (objects-past at.base (declared_statics at.locals) (behind_statics at) name s ∙ objects-past at.frame (framed at) (behind_frame at) name f))
    (functions-routine at.numbers (declared_externs at.locals) at.outer name found rest)

-- ## The scope of a text, from declaration to declaration

-- `left` are the objects, and `functions` the functions, that are still to be declared
pub record Reading (at : Linkage) (left functions_left : List (List ℕ)) (of : text.Scope) (here : List (List ℕ)) : Type 0 where
  pub objects : (name : List ℕ) → is_among name of.objects ≡ true → IsMentioned at name → IsKnown (scope_of at name)
  pub pointers : (name : List ℕ) → is_among name of.pointers ≡ true → IsMentioned at name → IsKnown (scope_of at name)
  pub functions : (name : List ℕ) → is_among name of.functions ≡ true → is_among name left ≡ false → IsMentioned at name → IsRoutine (scope_of at name)
  pub no_static : (name : List ℕ) → is_among name here ≡ false → is_among name left ≡ false → is_among name (names_of (declared_statics at.locals)) ≡ false
  pub no_framed : (name : List ℕ) → is_among name here ≡ false → is_among name left ≡ false → is_among name (names_of (framed at)) ≡ false
  pub later_known : (name : List ℕ) → is_among name left ≡ true → IsMentioned at name → IsKnown (scope_of at name)
  pub later_function : (name : List ℕ) → is_among name functions_left ≡ true → is_among name (declared_externs at.locals) ≡ true

-- an object is declared
pub with-object : {at : Linkage} {own : List ℕ} {left functions_left : List (List ℕ)} {of of' : text.Scope} {here : List (List ℕ)} → Reading at (own ∷ left) functions_left of here →
    ((name : List ℕ) → is_among name of'.objects ≡ true → is_among name (own ∷ of.objects) ≡ true) →
    ((name : List ℕ) → is_among name of'.pointers ≡ true → is_among name (own ∷ of.pointers) ≡ true) →
    ((name : List ℕ) → is_among name of'.functions ≡ true → IsOther name own of.functions) → Reading at left functions_left of' (own ∷ here)
with-object {own = own} {left = left} {of = of} {here = here} r objects pointers functions =
    record {
      objects = λ name among found.
          among-or name own of.objects (objects name among) (λ is. r.later_known name (or-of-left (bytes_eq name own) (is_among name left) is) found) (λ among'. r.objects name among' found);
      pointers = λ name among found.
          among-or name own of.pointers (pointers name among) (λ is. r.later_known name (or-of-left (bytes_eq name own) (is_among name left) is) found) (λ among'. r.pointers name among' found);
      functions = λ name among none found.
          let other = functions name among in r.functions name other.among (or-false (bytes_eq name own) (is_among name left) other.apart none) found;
      no_static = λ name none none'.
          r.no_static name (or-right (bytes_eq name own) (is_among name here) none) (or-false (bytes_eq name own) (is_among name left) (or-left (bytes_eq name own) (is_among name here) none) none');
      no_framed = λ name none none'.
          r.no_framed name (or-right (bytes_eq name own) (is_among name here) none) (or-false (bytes_eq name own) (is_among name left) (or-left (bytes_eq name own) (is_among name here) none) none');
      later_known = λ name among found. r.later_known name (or-of-right (bytes_eq name own) (is_among name left) among) found;
      later_function = r.later_function;
    }

among-with : (name own : List ℕ) (names : List (List ℕ)) → is_among name (own ∷ without own names) ≡ true → is_among name (own ∷ names) ≡ true
among-with name own names among =
    among-or {P = is_among name (own ∷ names) ≡ true} name own (without own names) among (λ is. or-of-left (bytes_eq name own) (is_among name names) is)
    (λ among'. or-of-right (bytes_eq name own) (is_among name names) (among-without name own names among'))

among-past : (name own : List ℕ) (names : List (List ℕ)) → is_among name (without own names) ≡ true → is_among name (own ∷ names) ≡ true
among-past name own names among = or-of-right (bytes_eq name own) (is_among name names) (among-without name own names among)

pub an-object : {at : Linkage} {own : List ℕ} {left functions_left : List (List ℕ)} (of : text.Scope) {here : List (List ℕ)} → Reading at (own ∷ left) functions_left of here → Reading at left functions_left (with_object own of) (own ∷ here)
an-object {own = own} of r = with-object r (λ name among. among-with name own of.objects among) (λ name among. among-past name own of.pointers among) (λ name among. is-other name own of.functions among)

pub an-array : {at : Linkage} {own : List ℕ} {left functions_left : List (List ℕ)} (of : text.Scope) {here : List (List ℕ)} → Reading at (own ∷ left) functions_left of here → Reading at left functions_left (with_array own of) (own ∷ here)
an-array {own = own} of r = with-object r (λ name among. among-with name own of.objects among) (λ name among. among-past name own of.pointers among) (λ name among. is-other name own of.functions among)

pub a-pointer : {at : Linkage} {own : List ℕ} {left functions_left : List (List ℕ)} (of : text.Scope) {here : List (List ℕ)} → Reading at (own ∷ left) functions_left of here → Reading at left functions_left (with_pointer own of) (own ∷ here)
a-pointer {own = own} of r = with-object r (λ name among. among-with name own of.objects among) (λ name among. among-with name own of.pointers among) (λ name among. is-other name own of.functions among)

-- a function is declared by `extern`
pub an-extern : {at : Linkage} {own : List ℕ} {left functions_left : List (List ℕ)} (of : text.Scope) {here : List (List ℕ)} → is_among own here ≡ false → Reading at left (own ∷ functions_left) of here →
    Reading at left functions_left (with_function own of) (own ∷ here)
an-extern {at = at} {own = own} {left = left} {functions_left = functions_left} of {here = here} fresh r =
    record {
      objects = λ name among found. r.objects name (among-without name own of.objects among) found;
      pointers = λ name among found. r.pointers name (among-without name own of.pointers among) found;
      functions = λ name among none found.
          among-or {P = IsRoutine (scope_of at name)} name own (without own of.functions) among
          (λ is.
          let same : name ≡ own = same-names name own is in
          let none' : is_among own left ≡ false = subst (λ n. is_among n left ≡ false) same none in
          let declared : is_among own (declared_externs at.locals) ≡ true = r.later_function own (or-of-left (bytes_eq own own) (is_among own functions_left) (name-itself own)) in
          subst (λ n. IsRoutine (scope_of at n)) (sym same)
          (local-routine at own (subst (IsMentioned at) same found) (r.no_static own fresh none') (r.no_framed own fresh none') (λ none''. absurd (declared-not own (declared_externs at.locals) declared none''))))
          (λ among'. r.functions name (among-without name own of.functions among') none found);
      no_static = λ name none none'. r.no_static name (or-right (bytes_eq name own) (is_among name here) none) none';
      no_framed = λ name none none'. r.no_framed name (or-right (bytes_eq name own) (is_among name here) none) none';
      later_known = r.later_known;
      later_function = λ name among. r.later_function name (or-of-right (bytes_eq name own) (is_among name functions_left) among);
    }
  where
    declared-not : (own : List ℕ) (names : List (List ℕ)) → is_among own names ≡ true → is_among own names ≡ false → ⊥
    declared-not own names one two = absurd (cc)

-- ## Parameters and declarations

parameter-read : {at : Linkage} {left functions_left : List (List ℕ)} (of : ParameterType) (own : List ℕ) (scope : text.Scope) {here : List (List ℕ)} → Reading at (own ∷ left) functions_left scope here →
    Reading at left functions_left (with_parameter of own scope) (own ∷ here)
parameter-read (parameter.Function type) own scope r = a-pointer scope r
parameter-read parameter.Integers own scope r = an-object scope r
parameter-read parameter.Logicals own scope r = an-object scope r
parameter-read parameter.Chars own scope r = an-object scope r
parameter-read parameter.Length own scope r = an-object scope r
parameter-read parameter.Int own scope r = an-object scope r

pub parameters-read : {at : Linkage} {left functions_left : List (List ℕ)} {scope last : text.Scope} {here names : List (List ℕ)} {params : List CParam} {p q : List Token} →
    declaration.ReadsParams scope here params last names p q → Reading at (parameter_names params ++ left) functions_left scope here → Reading at left functions_left last names
parameters-read (declaration.no_parameter scope here x) r = r
parameters-read (declaration.last_parameter scope here of own x y new) r = parameter-read of own scope r
parameters-read (declaration.one_parameter scope last here names of own x y new z more) r = parameters-read more (parameter-read of own scope r)

static-read : {at : Linkage} {scope : text.Scope} {here : List (List ℕ)} {one : CLocal} {own : List ℕ} {p q : List Token} (later : List CLocal) →
    declaration.ReadsStatic scope one own p q → Reading at (objects_named (one ∷ later)) (declared_externs (one ∷ later)) scope here →
    Reading at (objects_named later) (declared_externs later) (with_declared one own scope) (own ∷ here)
static-read {scope = scope} later (declaration.a_static of name x y z) r = an-object scope r
static-read {scope = scope} later (declaration.a_static_value of name x y z v w) r = an-object scope r
static-read {scope = scope} later (declaration.a_static_array of name n x y z) r = an-array scope r
static-read {scope = scope} later (declaration.a_static_text name n x y z) r = an-array scope r
static-read {scope = scope} later (declaration.a_text_of_its_length name bytes x y z u v w t) r = an-array scope r
static-read {scope = scope} later (declaration.a_list of name h x y z u v w) r = an-object scope r

local-read : {at : Linkage} {scope : text.Scope} {here : List (List ℕ)} {one : CLocal} {own : List ℕ} {p q : List Token} (later : List CLocal) →
    declaration.ReadsLocal scope one own p q → is_among own here ≡ false → Reading at (objects_named (one ∷ later)) (declared_externs (one ∷ later)) scope here →
    Reading at (objects_named later) (declared_externs later) (with_declared one own scope) (own ∷ here)
local-read {scope = scope} later (declaration.an_extern of name x y z u v w) fresh r = an-extern scope fresh r
local-read {at = at} {scope = scope} later (declaration.static x d) fresh r = static-read {at = at} later d r
local-read {scope = scope} later (declaration.a_number of name x y z) fresh r = an-object scope r
local-read {scope = scope} later (declaration.an_array_of_numbers of name n x y z) fresh r = an-object scope r
local-read {scope = scope} later (declaration.an_array_of_chars name n x y z) fresh r = an-object scope r
local-read {scope = scope} later (declaration.an_array_of_addresses name n x y z) fresh r = an-object scope r

-- behind the declarations
pub record AllRead (at : Linkage) (of : text.Scope) : Type 0 where
  pub here : List (List ℕ)
  pub reading : Reading at [] [] of here

pub locals-read : {at : Linkage} {scope last : text.Scope} {here : List (List ℕ)} {locals : List CLocal} {p q : List Token} → declaration.ReadsLocals scope here locals last p q →
    Reading at (objects_named locals) (declared_externs locals) scope here → AllRead at last
locals-read (declaration.no_local scope here) r = record { here = here; reading = r }
locals-read (declaration.one_local scope last here {later = later} d new more) r = locals-read more (local-read later d new.fresh r)

-- ## The names of a function

none-among : (xs ys : List (List ℕ)) (name : List ℕ) → is_among name (xs ++ ys) ≡ false → (is_among name xs || is_among name ys) ≡ false
none-among xs ys name none = sym (list_any-append (bytes_eq name) xs ys) ∙ none

left-static : (at : Linkage) (name : List ℕ) → is_among name (parameter_names at.params ++ objects_named at.locals) ≡ false → is_among name (names_of (declared_statics at.locals)) ≡ false
left-static at name none =
    let parts = none-among (parameter_names at.params) (objects_named at.locals) name none in
    let it = no-object at.locals name (or-right (is_among name (parameter_names at.params)) (is_among name (objects_named at.locals)) parts) in it.statics

left-framed : (at : Linkage) (name : List ℕ) → is_among name (parameter_names at.params ++ objects_named at.locals) ≡ false → is_among name (names_of (framed at)) ≡ false
left-framed at name none =
    let parts = none-among (parameter_names at.params) (objects_named at.locals) name none in
    let it = no-object at.locals name (or-right (is_among name (parameter_names at.params)) (is_among name (objects_named at.locals)) parts) in
    names-of-append (declared_parameters at.params) (declared_automatics at.locals) name
    ∙ or-false (is_among name (names_of (declared_parameters at.params))) (is_among name (names_of (declared_automatics at.locals)))
    (ap (is_among name) (names-of-parameters at.params) ∙ or-left (is_among name (parameter_names at.params)) (is_among name (objects_named at.locals)) parts) it.automatics

none-left : (at : Linkage) (name : List ℕ) → is_among name (names_of (declared_statics at.locals)) ≡ false → is_among name (names_of (framed at)) ≡ false →
    is_among name (parameter_names at.params ++ objects_named at.locals) ≡ false
none-left at name s f =
    let parts : (is_among name (names_of (declared_parameters at.params)) || is_among name (names_of (declared_automatics at.locals))) ≡ false = sym (names-of-append (declared_parameters at.params) (declared_automatics at.locals) name) ∙ f in
    list_any-append (bytes_eq name) (parameter_names at.params) (objects_named at.locals)
    ∙ or-false (is_among name (parameter_names at.params)) (is_among name (objects_named at.locals))
    (ap (is_among name) (sym (names-of-parameters at.params)) ∙ or-left (is_among name (names_of (declared_parameters at.params))) (is_among name (names_of (declared_automatics at.locals))) parts)
    (none-named at.locals name s (or-right (is_among name (names_of (declared_parameters at.params))) (is_among name (names_of (declared_automatics at.locals))) parts))

pub first-reading : (at : Linkage) (of : text.Scope) → OutsideKnown of at.outer → Reading at (parameter_names at.params ++ objects_named at.locals) (declared_externs at.locals) of []
first-reading at of known =
    record {
      objects = λ name among found. local-known at name found (λ s f. known.objects name among);
      pointers = λ name among found. local-known at name found (λ s f. known.pointers name among);
      functions = λ name among none found. local-routine at name found (left-static at name none) (left-framed at name none) (λ e. known.functions name among);
      no_static = λ name none none'. left-static at name none';
      no_framed = λ name none none'. left-framed at name none';
      later_known = λ name among found. local-known at name found (λ s f. both-ways (is_among name (parameter_names at.params ++ objects_named at.locals)) among (none-left at name s f));
      later_function = λ name among. among;
    }

pub names-known : (at : Linkage) (of last : text.Scope) → OutsideKnown of at.outer → AllRead at last → NamesKnown last (scope_of at) (IsMentioned at)
names-known at of last known all =
    let r = all.reading in
    record {
      objects = r.objects;
      functions = λ name among found. r.functions name among refl found;
      pointers = r.pointers;
      truths = λ name among found. local-known at name found (λ s f. known.truths name among);
    }
