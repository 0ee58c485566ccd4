-- The functions of a well-formed file, linked where their names are found, stand whole.
use Rattle.std.specs.Prelude.{◌≡◌, ℕ, ◌+◌, Bool, true, false, cond, ◌||◌, List, [], ◌∷◌, ◌++◌, length, filter, codes, pos, Option, Some, None, is_none, bytes_eq, if◌then◌else◌}
use Rattle.std.specs.List.{list_any}
use Rattle.std.proofs.Common.{refl, sym, subst, ap, ◌∙◌}
use Rattle.std.proofs.lemmas.List.Folds.{list_any-append}
use Rattle.c_laws.specs.c_tree.declared.statement.CStmt.{CStmt}
use Rattle.c_laws.specs.c_tree.declared.file.CObject.{CObject}
use Rattle.c_laws.specs.c_tree.declared.file.CObject.TheVariants.{Integers, Chars}
use Rattle.c_laws.specs.c_tree.declared.file.CConstant.{CConstant}
use Rattle.c_laws.specs.c_tree.declared.file.CFunction.{CFunction}
use Rattle.c_laws.specs.c_tree.declared.file.CFile.{CFile}
use Rattle.c_laws.specs.c_tree.Tokens.{Token}
use Rattle.c_laws.specs.c_tree.CWords.{is_among}
use Rattle.c_laws.specs.c_tree.CExpressionText as text
use Rattle.c_laws.specs.c_tree.CStatementText as statement
use Rattle.c_laws.specs.c_tree.CDeclarationText as declaration
use Rattle.c_laws.specs.c_tree.CDeclarationText.{without, with_object, with_array, with_function}
use Rattle.c_laws.specs.c_tree.CText.{ReadsFunction, a_function, ReadsFunctions, no_function, one_function, ReadsParts, only_functions, one_constant, one_object, no_names, ReadsFile}
use Rattle.c_laws.specs.c_tree.CLabels.{labels_meet}
use Rattle.c_laws.specs.c_tree.Access.{Access, ToNumber, ToChar}
use Rattle.c_laws.specs.c_tree.Terms.{Constant, Unknown}
use Rattle.c_laws.specs.c_tree.Drafts.{Scope}
use Rattle.c_laws.specs.c_tree.FlatForm.{whole_body}
use Rattle.c_laws.specs.c_tree.Declarations.{declared_statics, declared_externs}
use Rattle.c_laws.specs.c_tree.Linking.{Routines, external, function_names, known_functions, array_at, external_term, known_externals, included, declared_constants, file_scope, strings_of, objects_of, linked_function, linked_functions, linked_file, any_of, misses}
use Rattle.c_totality.specs.Sound.{Each, IsKnown}
use Rattle.c_totality.specs.Standing.{StandsWhole}
use Rattle.c_totality.proofs.ListLaws.{among-or, among-without, both-ways, or-left, or-right, or-of-left, or-of-right, or-false, same-names, name-itself, each-map}
use Rattle.c_totality.proofs.FlatSound.{IsRoutine, NamesKnown}
use Rattle.c_totality.proofs.CodeSound.{CodeStands, whole-sits, code-stands}
use Rattle.c_totality.proofs.ScopeSound.{names_of, StandsKnown, objects-known, objects-past, functions-known, functions-routine}
use Rattle.c_totality.proofs.NamesSound.{Linkage, scope_of, IsMentioned, OutsideKnown, first-reading, parameters-read, locals-read, names-known}

-- ## The names of a file

abbrev pub object_names : List CObject → List (List ℕ)
object_names [] = []
object_names (object ∷ later) = (external object).name ∷ object_names later

abbrev pub constant_names : List CConstant → List (List ℕ)
constant_names [] = []
constant_names (constant ∷ later) = constant.name ∷ constant_names later

-- a name that is found
abbrev pub IsFound : (List ℕ → Option ℕ) → List ℕ → Type 0
IsFound numbers name = is_none (numbers name) ≡ false

array-known : (access : Access) (found : Option ℕ) → is_none found ≡ false → IsKnown (array_at access found)
array-known access None is = absurd (cc)
array-known access (Some number) is = tt

external-known : (numbers : List ℕ → Option ℕ) (object : CObject) → IsFound numbers (external object).name → IsKnown (external_term numbers object)
external-known numbers (Integers name count image) found = array-known ToNumber (numbers name) found
external-known numbers (Chars name size image) found = array-known ToChar (numbers name) found

externals-known : (numbers : List ℕ → Option ℕ) (list : List CObject) (outer : Scope) (name : List ℕ) → Each (λ object. IsFound numbers (external object).name) list →
    (is_among name (object_names list) ≡ false → IsKnown (outer name)) → IsKnown (known_externals numbers list outer name)
externals-known numbers [] outer name each rest = rest refl
externals-known numbers (object ∷ later) outer name each rest = by (bytes_eq name (external object).name) refl (externals-known numbers later outer name each.1)
  where
    by : (b : Bool) → bytes_eq name (external object).name ≡ b → ((is_among name (object_names later) ≡ false → IsKnown (outer name)) → IsKnown (known_externals numbers later outer name)) →
        IsKnown (if b then external_term numbers object else known_externals numbers later outer name)
    by true is behind = external-known numbers object each.0
    by false is behind = behind (λ none. rest (or-false (bytes_eq name (external object).name) (is_among name (object_names later)) is none))

externals-past : (numbers : List ℕ → Option ℕ) (list : List CObject) (outer : Scope) (name : List ℕ) → is_among name (object_names list) ≡ false → known_externals numbers list outer name ≡ outer name
externals-past numbers [] outer name none = refl
externals-past numbers (object ∷ later) outer name none =
    ap (λ b. if b then external_term numbers object else known_externals numbers later outer name) (or-left (bytes_eq name (external object).name) (is_among name (object_names later)) none)
    ∙ externals-past numbers later outer name (or-right (bytes_eq name (external object).name) (is_among name (object_names later)) none)

constants-stand : (constants : List CConstant) → Each StandsKnown (declared_constants constants)
constants-stand [] = tt
constants-stand (constant ∷ later) = ((λ number. tt), constants-stand later)

constants-named : (constants : List CConstant) → names_of (declared_constants constants) ≡ constant_names constants
constants-named [] = refl
constants-named (constant ∷ later) = ap (λ l. constant.name ∷ l) (constants-named later)

among-each : (P : List ℕ → Type 0) (names : List (List ℕ)) (name : List ℕ) → Each P names → is_among name names ≡ true → P name
among-each P [] name each among = both-ways false among refl
among-each P (first ∷ later) name each among = by (bytes_eq name first) refl among (among-each P later name each.1)
  where
    by : (b : Bool) → bytes_eq name first ≡ b → (b || is_among name later) ≡ true → (is_among name later ≡ true → P name) → P name
    by true is among behind = subst P (sym (same-names name first is)) each.0
    by false is among behind = behind among

-- where a file is linked: its functions and its external objects are found
pub record FileLinkage (file : CFile) : Type 0 where
  pub numbers : Routines
  pub places : List ℕ → Option ℕ
  pub base : ℕ
  pub functions_found : Each (IsFound numbers) (function_names file.functions)
  pub objects_found : Each (λ object. IsFound places (external object).name) file.objects

abbrev pub scope_at : {file : CFile} → FileLinkage file → Scope
scope_at {file} at = file_scope at.numbers at.places at.base file

abbrev functions_behind : {file : CFile} → FileLinkage file → Scope
functions_behind {file} at = known_functions at.numbers (function_names file.functions) included

abbrev externals_behind : {file : CFile} → FileLinkage file → Scope
externals_behind {file} at = known_externals at.places file.objects (functions_behind at)

file-known : {file : CFile} (at : FileLinkage file) (name : List ℕ) →
    (is_among name (constant_names file.constants) ≡ false → is_among name (object_names file.objects) ≡ false → IsKnown (included name)) → IsKnown (scope_at at name)
file-known {file = file} at name rest =
    objects-known at.base (declared_constants file.constants) (externals_behind at) name (constants-stand file.constants) (λ c.
    externals-known at.places file.objects (functions_behind at) name at.objects_found (λ o.
    functions-known at.numbers (function_names file.functions) included name (λ among. among-each (IsFound at.numbers) (function_names file.functions) name at.functions_found among)
    (λ f. rest (ap (is_among name) (sym (constants-named file.constants)) ∙ c) o)))

file-routine : {file : CFile} (at : FileLinkage file) (name : List ℕ) → is_among name (constant_names file.constants) ≡ false → is_among name (object_names file.objects) ≡ false →
    is_among name (function_names file.functions) ≡ true → IsRoutine (scope_at at name)
file-routine {file = file} at name c o among =
    subst IsRoutine
    (sym (objects-past at.base (declared_constants file.constants) (externals_behind at) name (ap (is_among name) (constants-named file.constants) ∙ c) ∙ externals-past at.places file.objects (functions_behind at) name o))
    (functions-routine at.numbers (function_names file.functions) included name (λ among'. among-each (IsFound at.numbers) (function_names file.functions) name at.functions_found among')
    (λ none. both-ways (is_among name (function_names file.functions)) among none))

truth-known : (name : List ℕ) (a b : Bool) → (a || (b || false)) ≡ true → IsKnown (if a then Constant (pos 1) else if b then Constant (pos 0) else Unknown)
truth-known name true b is = tt
truth-known name false true is = tt
truth-known name false false is = both-ways false is refl

-- ## The scope of a file's text

pub record FileReading (outer : Scope) (left functions_left : List (List ℕ)) (of : text.Scope) (here : List (List ℕ)) : Type 0 where
  pub objects : (name : List ℕ) → is_among name of.objects ≡ true → IsKnown (outer name)
  pub pointers : (name : List ℕ) → is_among name of.pointers ≡ true → IsKnown (outer name)
  pub functions : (name : List ℕ) → is_among name of.functions ≡ true → IsRoutine (outer name)
  pub truths : (name : List ℕ) → is_among name (codes "TRUE_" ∷ codes "FALSE_" ∷ []) ≡ true → IsKnown (outer name)
  pub later_known : (name : List ℕ) → is_among name left ≡ true → IsKnown (outer name)
  pub later_function : (name : List ℕ) → is_among name functions_left ≡ true → is_among name here ≡ false → is_among name left ≡ false → IsRoutine (outer name)

-- an object or a constant is declared
object-declared : {outer : Scope} {left functions_left : List (List ℕ)} (own : List ℕ) {of of' : text.Scope} {here : List (List ℕ)} → of'.objects ≡ own ∷ without own of.objects → of'.pointers ≡ without own of.pointers →
    of'.functions ≡ without own of.functions → FileReading outer (own ∷ left) functions_left of here → FileReading outer left functions_left of' (own ∷ here)
object-declared {outer = outer} {left = left} own {of = of} {here = here} o p f r =
    record {
      objects = λ name among.
          among-or {P = IsKnown (outer name)} name own (without own of.objects) (subst (λ l. is_among name l ≡ true) o among)
          (λ is. r.later_known name (or-of-left (bytes_eq name own) (is_among name left) is)) (λ among'. r.objects name (among-without name own of.objects among'));
      pointers = λ name among. r.pointers name (among-without name own of.pointers (subst (λ l. is_among name l ≡ true) p among));
      functions = λ name among. r.functions name (among-without name own of.functions (subst (λ l. is_among name l ≡ true) f among));
      truths = r.truths;
      later_known = λ name among. r.later_known name (or-of-right (bytes_eq name own) (is_among name left) among);
      later_function = λ name among none none'.
          r.later_function name among (or-right (bytes_eq name own) (is_among name here) none) (or-false (bytes_eq name own) (is_among name left) (or-left (bytes_eq name own) (is_among name here) none) none');
    }

-- a function is defined
function-declared : {outer : Scope} {functions_left : List (List ℕ)} (own : List ℕ) (of : text.Scope) {here : List (List ℕ)} → is_among own here ≡ false → FileReading outer [] (own ∷ functions_left) of here →
    FileReading outer [] functions_left (with_function own of) (own ∷ here)
function-declared {outer = outer} {functions_left = functions_left} own of {here = here} fresh r =
    record {
      objects = λ name among. r.objects name (among-without name own of.objects among);
      pointers = λ name among. r.pointers name (among-without name own of.pointers among);
      functions = λ name among.
          among-or {P = IsRoutine (outer name)} name own (without own of.functions) among
          (λ is. subst (λ n. IsRoutine (outer n)) (sym (same-names name own is)) (r.later_function own (or-of-left (bytes_eq own own) (is_among own functions_left) (name-itself own)) fresh refl))
          (λ among'. r.functions name (among-without name own of.functions among'));
      truths = r.truths;
      later_known = r.later_known;
      later_function = λ name among none none'. r.later_function name (or-of-right (bytes_eq name own) (is_among name functions_left) among) (or-right (bytes_eq name own) (is_among name here) none) none';
    }

-- a function whose names outside it are known
pub record IsRead (outer : Scope) (function : CFunction) : Type 0 where
  pub of : text.Scope
  pub here : List Token
  pub behind : List Token
  pub reads : ReadsFunction of function here behind
  pub known : OutsideKnown (with_function function.name of) outer

functions-read : {outer : Scope} {of : text.Scope} {here : List (List ℕ)} {functions : List CFunction} {p : List Token} → ReadsFunctions of here functions p → FileReading outer [] (function_names functions) of here → Each (IsRead outer) functions
functions-read (no_function scope here) r = tt
functions-read (one_function scope here {first = first} {p = p} {q = q} d new more) r =
    let inner = function-declared first.name scope new.fresh r in (
      record {
        of = scope;
        here = p;
        behind = q;
        reads = d;
        known = record { objects = inner.objects; functions = inner.functions; pointers = inner.pointers; truths = inner.truths };
      },
      functions-read more inner,
    )

object-named : {object : CObject} {name : List ℕ} {p q : List Token} → declaration.ReadsObject object name p q → (external object).name ≡ name
object-named (declaration.integers name n x y z) = refl
object-named (declaration.chars name n x y z) = refl

parts-read : {outer : Scope} {of : text.Scope} {here : List (List ℕ)} {objects : List CObject} {constants : List CConstant} {functions : List CFunction} {p : List Token} → ReadsParts of here objects constants functions p →
    FileReading outer (object_names objects ++ constant_names constants) (function_names functions) of here → Each (IsRead outer) functions
parts-read (only_functions scope here d) r = functions-read d r
parts-read (one_constant scope here {first = first} d new more) r = parts-read more (object-declared first.name refl refl refl r)
parts-read {outer = outer} (one_object scope here {first = first} {name = name} {later = later} {constants = constants} {functions = functions} d new more) r =
    parts-read more (object-declared name refl refl refl
    (subst (λ own. FileReading outer (own ∷ (object_names later ++ constant_names constants)) (function_names functions) scope here) (object-named d) r))

first-reading-of : {file : CFile} (at : FileLinkage file) → FileReading (scope_at at) (object_names file.objects ++ constant_names file.constants) (function_names file.functions) no_names []
first-reading-of {file = file} at =
    record {
      objects = λ name among. both-ways false among refl;
      pointers = λ name among. both-ways false among refl;
      functions = λ name among. both-ways false among refl;
      truths = λ name among. file-known at name (λ c o. truth-known name (bytes_eq name (codes "TRUE_")) (bytes_eq name (codes "FALSE_")) among);
      later_known = λ name among. file-known at name (λ c o.
          both-ways (is_among name (object_names file.objects ++ constant_names file.constants)) among
          (list_any-append (bytes_eq name) (object_names file.objects) (constant_names file.constants) ∙ or-false (is_among name (object_names file.objects)) (is_among name (constant_names file.constants)) o c));
      later_function = λ name among none none'.
          let parts : (is_among name (object_names file.objects) || is_among name (constant_names file.constants)) ≡ false = sym (list_any-append (bytes_eq name) (object_names file.objects) (constant_names file.constants)) ∙ none' in
          file-routine at name (or-right (is_among name (object_names file.objects)) (is_among name (constant_names file.constants)) parts)
          (or-left (is_among name (object_names file.objects)) (is_among name (constant_names file.constants)) parts) among;
    }

pub file-read : {file : CFile} {tokens : List Token} (at : FileLinkage file) → ReadsFile file tokens → Each (IsRead (scope_at at)) file.functions
file-read at reads = parts-read reads.parts (first-reading-of at)

-- ## Functions

-- the statements of a function where it is linked
pub record BodyReads (at : Linkage) (body : List CStmt) : Type 0 where
  pub of : text.Scope
  pub here : List Token
  pub behind : List Token
  pub names : NamesKnown of (scope_of at) (IsMentioned at)
  pub reads : statement.ReadsStmts of body here behind
  pub meet : labels_meet body ≡ true

body-reads : (numbers : Routines) (base frame : ℕ) (outer : Scope) {of : text.Scope} {function : CFunction} {p q : List Token} → ReadsFunction of function p q → OutsideKnown (with_function function.name of) outer →
    BodyReads (record { numbers = numbers; base = base; frame = frame; params = function.params; locals = function.locals; outer = outer }) function.body
body-reads numbers base frame outer {of = of} (a_function result name {params = params} {locals = locals} {inner = inner} {w = w} {x = x} meet a b c d e f g h) known =
    let at : Linkage = record { numbers = numbers; base = base; frame = frame; params = params; locals = locals; outer = outer } in
    record {
      of = inner;
      here = w;
      behind = x;
      names = names-known at (with_function name of) inner known (locals-read g (parameters-read d (first-reading at (with_function name of) known)));
      reads = h;
      meet = meet;
    }

any-same : {A : Type 0} (test : A → Bool) (list : List A) → any_of test list ≡ list_any test list
any-same test [] = refl
any-same test (first ∷ later) = ap (λ b. test first || b) (any-same test later)

none-filtered : (test pass : List ℕ → Bool) (names rest : List (List ℕ)) → any_of test (filter pass names ++ rest) ≡ false → Each (λ name. pass name ≡ true → test name ≡ false) names
none-filtered test pass [] rest none = tt
none-filtered test pass (first ∷ later) rest none = by (pass first) refl none (none-filtered test pass later rest)
  where
    by : (b : Bool) → pass first ≡ b → any_of test (cond b (first ∷ filter pass later) (filter pass later) ++ rest) ≡ false →
        (any_of test (filter pass later ++ rest) ≡ false → Each (λ name. pass name ≡ true → test name ≡ false) later) →
        ((pass first ≡ true → test first ≡ false) × Each (λ name. pass name ≡ true → test name ≡ false) later)
    by true is none behind = ((λ passes. or-left (test first) (any_of test (filter pass later ++ rest)) none), behind (or-right (test first) (any_of test (filter pass later ++ rest)) none))
    by false is none behind = ((λ passes. both-ways (pass first) passes is), behind none)

names-mentioned : (at : Linkage) (function : CFunction) → at.locals ≡ function.locals → misses at.numbers function ≡ false → Each (IsMentioned at) (whole_body function.body).items.names
names-mentioned at function same none =
    each-map (whole_body function.body).items.names
    (λ name passes among. passes (any-same (bytes_eq name) (declared_externs function.locals) ∙ ap (λ l. is_among name (declared_externs l)) (sym same) ∙ among))
    (none-filtered (λ name. is_none (at.numbers name)) (λ name. any_of (bytes_eq name) (declared_externs function.locals)) (whole_body function.body).items.names _ none)

pub function-stands : (numbers : Routines) (own base : ℕ) (outer : Scope) (function : CFunction) → IsRead outer function → misses numbers function ≡ false → StandsWhole (linked_function numbers own outer base function).function
function-stands numbers own base outer function read none =
    let linked = linked_function numbers own outer base function in
    let at : Linkage = record { numbers = numbers; base = base; frame = linked.function.frame; params = function.params; locals = function.locals; outer = outer } in
    let it : BodyReads at function.body = body-reads numbers base linked.function.frame outer read.reads read.known in
    let code : CodeStands linked.function.code =
    code-stands function.body (whole-sits it.names it.reads) it.meet (names-mentioned at function refl none) (base + length (declared_statics function.locals) + length (strings_of (declared_statics function.locals))) in
    record { some = code.some; items = code.items }

pub functions-stand : (numbers : Routines) (own base : ℕ) (outer : Scope) (functions : List CFunction) → Each (IsRead outer) functions → Each (λ function. misses numbers function ≡ false) functions →
    Each StandsWhole (linked_functions numbers own outer base functions).functions
functions-stand numbers own base outer [] read none = tt
functions-stand numbers own base outer (function ∷ later) read none = (
  function-stands numbers own base outer function read.0 none.0,
  functions-stand numbers own (base + length (linked_function numbers own outer base function).objects) outer later read.1 none.1,
)

-- THE FUNCTIONS OF A FILE
pub file-stands : {file : CFile} {tokens : List Token} (at : FileLinkage file) (own : ℕ) → ReadsFile file tokens → Each (λ function. misses at.numbers function ≡ false) file.functions →
    Each StandsWhole (linked_file at.numbers at.places own at.base file).functions
file-stands {file = file} at own reads none =
    functions-stand at.numbers own (at.base + length (objects_of (scope_at at) at.base (declared_constants file.constants))) (scope_at at) file.functions (file-read at reads) none
