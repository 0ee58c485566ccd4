-- What stands for an object or a function where a file is linked is declared where its text is read.
use Rattle.std.specs.Prelude.{◌≡◌, ◌≢◌, ℕ, ◌+◌, pos, Bool, true, false, not, ◌||◌, List, [], ◌∷◌, ◌++◌, map, Option, Some, None, bytes_eq, codes, cond, if◌then◌else◌}
use Rattle.std.proofs.Common.{refl, sym, ap, ◌∙◌}
use Rattle.std.proofs.lemmas.Slice.Eq.{bytes_eq-Decides}
use Rattle.main_translation_laws.specs.f_tree.Setting.{IsIn, first_in, later_in}
use Rattle.main_translation_laws.specs.c_tree.declared.declaration.CLocal.{CLocal}
use Rattle.main_translation_laws.specs.c_tree.declared.declaration.CLocal.TheVariants as local
use Rattle.main_translation_laws.specs.c_tree.declared.declaration.CParam.{CParam}
use Rattle.main_translation_laws.specs.c_tree.declared.types.ParameterType.{ParameterType}
use Rattle.main_translation_laws.specs.c_tree.declared.types.ParameterType.TheVariants as parameter
use Rattle.main_translation_laws.specs.c_tree.declared.file.CConstant.{CConstant}
use Rattle.main_translation_laws.specs.c_tree.Access.{ToFunction}
use Rattle.main_translation_laws.specs.c_tree.Terms.{Term, Constant, Variable, Array, Routine, Unknown}
use Rattle.main_translation_laws.specs.c_tree.CWords.{is_among}
use Rattle.main_translation_laws.specs.c_tree.CExpressionText.{Scope, declared_before, an_object}
use Rattle.main_translation_laws.specs.c_tree.CDeclarationText.{without, with_object, with_array, with_function, with_pointer, with_declared, with_parameter}
use Rattle.main_translation_laws.specs.c_tree.CText.{no_names}
use Rattle.main_translation_laws.specs.c_tree.Drafts as linking
use Rattle.main_translation_laws.specs.c_tree.Declarations.{Declared, parameter_access, declared_parameters, declared_statics, declared_automatics, declared_externs}
use Rattle.main_translation_laws.specs.c_tree.Linking.{Routines, routine, known_objects, known_functions, included, declared_constants}
use Rattle.main_translation_laws.specs.linking_laws.Linked.{names_of}
use Rattle.main_translation_laws.proofs.linking_laws.Places.{other_bytes, same_bytes, skipped}
use Rattle.main_translation_laws.proofs.Lists.{AreApart, one_apart}
use Rattle.main_file_texts.specs.WellFormedMains.{Agrees}

-- ## Truth of choices

pub or_right : (a b : Bool) → b ≡ true → (a || b) ≡ true
or_right true b h = refl
or_right false b h = h

pub or_left : (a b : Bool) → a ≡ true → (a || b) ≡ true
or_left true b h = refl
or_left false b h = absurd (cc)

pub none_left : (a b : Bool) → (a || b) ≡ false → a ≡ false
none_left true b h = h
none_left false b h = refl

pub none_right : (a b : Bool) → (a || b) ≡ false → b ≡ false
none_right true b h = absurd (cc)
none_right false b h = h

pub none_both : (a b : Bool) → a ≡ false → b ≡ false → (a || b) ≡ false
none_both true b h k = h
none_both false b h k = k

pub same_text : (x y : List ℕ) → bytes_eq x y ≡ true → x ≡ y
same_text x y h = (bytes_eq-Decides x y).0 h

-- ## Names among names

pub none_among : (name : List ℕ) (list : List (List ℕ)) → ((other : List ℕ) → IsIn other list → name ≢ other) → is_among name list ≡ false
none_among name [] none = refl
none_among name (other ∷ list) none = none_both (bytes_eq name other) (is_among name list) (other_bytes name other (none other first_in)) (none_among name list (λ y o. none y (later_in o)))

without_keeps : (x name : List ℕ) (list : List (List ℕ)) → bytes_eq x name ≡ false → is_among x list ≡ true → is_among x (without name list) ≡ true
without_keeps x name [] differ h = h
without_keeps x name (other ∷ list) differ h = by (bytes_eq name other) (bytes_eq x other) refl refl h (without_keeps x name list differ)
  where
    by : (a b : Bool) → bytes_eq name other ≡ a → bytes_eq x other ≡ b → (b || is_among x list) ≡ true → (is_among x list ≡ true → is_among x (without name list) ≡ true) → is_among x (cond (not a) (other ∷ without name list) (without name list)) ≡ true
    by true true e f k again =
        let same : x ≡ name = same_text x other f ∙ sym (same_text name other e) in
        let no : true ≡ false = sym (same_bytes x name same) ∙ differ in absurd (cc)
    by true false e f k again = again k
    by false true e f k again = or_left (bytes_eq x other) (is_among x (without name list)) f
    by false false e f k again = or_right (bytes_eq x other) (is_among x (without name list)) (again k)

-- what was declared still is, where a name is declared anew
declared_still : (x name : List ℕ) (list : List (List ℕ)) → is_among x list ≡ true → is_among x (name ∷ without name list) ≡ true
declared_still x name list h = by (bytes_eq x name) refl
  where
    by : (a : Bool) → bytes_eq x name ≡ a → is_among x (name ∷ without name list) ≡ true
    by true e = or_left (bytes_eq x name) (is_among x (without name list)) e
    by false e = or_right (bytes_eq x name) (is_among x (without name list)) (without_keeps x name list e h)

-- ## The scope behind declarations

abbrev pub local_name : CLocal → List ℕ
local_name (local.Extern of name types) = name
local_name (local.StaticNumber of name value) = name
local_name (local.StaticNumbers of name n values) = name
local_name (local.StaticChars name n text) = name
local_name (local.StaticList of name fields) = name
local_name (local.Number of name) = name
local_name (local.Numbers of name n) = name
local_name (local.Chars name n) = name
local_name (local.Addresses name n) = name

abbrev pub local_names : List CLocal → List (List ℕ)
local_names ones = map local_name ones

abbrev pub with_all : Scope → List CLocal → Scope
with_all scope [] = scope
with_all scope (one ∷ later) = with_all (with_declared one (local_name one) scope) later

abbrev pub with_constants : Scope → List CConstant → Scope
with_constants scope [] = scope
with_constants scope (one ∷ later) = with_constants (with_object one.name scope) later

abbrev pub constant_texts : List CConstant → List (List ℕ)
constant_texts constants = map (λ (one : CConstant). one.name) constants

-- a declaration declares a function, an array that lasts or another object
declares : (P : Scope → Type 0) (one : CLocal) (name : List ℕ) (scope : Scope) → P (with_function name scope) → P (with_object name scope) → P (with_array name scope) → P (with_declared one name scope)
declares P (local.Extern of function types) name scope f o a = f
declares P (local.StaticNumber of x value) name scope f o a = o
declares P (local.StaticNumbers of x n values) name scope f o a = a
declares P (local.StaticChars x n text) name scope f o a = a
declares P (local.StaticList of x fields) name scope f o a = o
declares P (local.Number of x) name scope f o a = o
declares P (local.Numbers of x n) name scope f o a = o
declares P (local.Chars x n) name scope f o a = o
declares P (local.Addresses x n) name scope f o a = o

abbrev pub IsObject : List ℕ → Scope → Type 0
IsObject x scope = is_among x scope.objects ≡ true

abbrev pub IsFunction : List ℕ → Scope → Type 0
IsFunction x scope = is_among x scope.functions ≡ true

abbrev pub IsPointer : List ℕ → Scope → Type 0
IsPointer x scope = is_among x scope.pointers ≡ true

keeps_object : (x : List ℕ) (one : CLocal) (name : List ℕ) (scope : Scope) → bytes_eq x name ≡ false → IsObject x scope → IsObject x (with_declared one name scope)
keeps_object x one name scope differ is =
    let kept = without_keeps x name scope.objects differ is in
    let still = or_right (bytes_eq x name) (is_among x (without name scope.objects)) kept in
    declares (IsObject x) one name scope kept still still

keeps_function : (x : List ℕ) (one : CLocal) (name : List ℕ) (scope : Scope) → bytes_eq x name ≡ false → IsFunction x scope → IsFunction x (with_declared one name scope)
keeps_function x one name scope differ is =
    let kept = without_keeps x name scope.functions differ is in
    declares (IsFunction x) one name scope (or_right (bytes_eq x name) (is_among x (without name scope.functions)) kept) kept kept

keeps_pointer : (x : List ℕ) (one : CLocal) (name : List ℕ) (scope : Scope) → bytes_eq x name ≡ false → IsPointer x scope → IsPointer x (with_declared one name scope)
keeps_pointer x one name scope differ is = let kept = without_keeps x name scope.pointers differ is in declares (IsPointer x) one name scope kept kept kept

all_keep_object : (x : List ℕ) (ones : List CLocal) (scope : Scope) → is_among x (local_names ones) ≡ false → IsObject x scope → IsObject x (with_all scope ones)
all_keep_object x [] scope none is = is
all_keep_object x (one ∷ ones) scope none is =
    all_keep_object x ones (with_declared one (local_name one) scope) (none_right (bytes_eq x (local_name one)) (is_among x (local_names ones)) none)
    (keeps_object x one (local_name one) scope (none_left (bytes_eq x (local_name one)) (is_among x (local_names ones)) none) is)

all_keep_function : (x : List ℕ) (ones : List CLocal) (scope : Scope) → is_among x (local_names ones) ≡ false → IsFunction x scope → IsFunction x (with_all scope ones)
all_keep_function x [] scope none is = is
all_keep_function x (one ∷ ones) scope none is =
    all_keep_function x ones (with_declared one (local_name one) scope) (none_right (bytes_eq x (local_name one)) (is_among x (local_names ones)) none)
    (keeps_function x one (local_name one) scope (none_left (bytes_eq x (local_name one)) (is_among x (local_names ones)) none) is)

all_keep_pointer : (x : List ℕ) (ones : List CLocal) (scope : Scope) → is_among x (local_names ones) ≡ false → IsPointer x scope → IsPointer x (with_all scope ones)
all_keep_pointer x [] scope none is = is
all_keep_pointer x (one ∷ ones) scope none is =
    all_keep_pointer x ones (with_declared one (local_name one) scope) (none_right (bytes_eq x (local_name one)) (is_among x (local_names ones)) none)
    (keeps_pointer x one (local_name one) scope (none_left (bytes_eq x (local_name one)) (is_among x (local_names ones)) none) is)

-- the first name of a list that has none twice is none of the later ones
apart_first : (x name : List ℕ) (names : List (List ℕ)) → bytes_eq x name ≡ true → AreApart (name ∷ names) → is_among x names ≡ false
apart_first x name names same (one_apart none later) = none_among x names (λ y o e. none y o (sym (same_text x name same) ∙ e))

apart_later : (name : List ℕ) (names : List (List ℕ)) → AreApart (name ∷ names) → AreApart names
apart_later name names (one_apart none later) = later

-- the names of objects, and those of functions
abbrev object_names : List CLocal → List (List ℕ)
object_names [] = []
object_names (local.Extern of name types ∷ later) = object_names later
object_names (other ∷ later) = local_name other ∷ object_names later

-- one that is declared as an object is there
first_object : (x name : List ℕ) (scope : Scope) → bytes_eq x name ≡ true → is_among x (name ∷ without name scope.objects) ≡ true
first_object x name scope same = or_left (bytes_eq x name) (is_among x (without name scope.objects)) same

split_or : (x name : List ℕ) (names : List (List ℕ)) (P : Type 0) → is_among x (name ∷ names) ≡ true → (bytes_eq x name ≡ true → P) → (is_among x names ≡ true → P) → P
split_or x name names P h one other = by (bytes_eq x name) refl h
  where
    by : (b : Bool) → bytes_eq x name ≡ b → (b || is_among x names) ≡ true → P
    by true e k = one e
    by false e k = other k

pub object_there : (x : List ℕ) (ones : List CLocal) (scope : Scope) → AreApart (local_names ones) → is_among x (object_names ones) ≡ true → IsObject x (with_all scope ones)
object_there x [] scope apart is = absurd (cc)
object_there x (local.Extern of name types ∷ later) scope apart is = object_there x later (with_function name scope) (apart_later name (local_names later) apart) is
object_there x (local.StaticNumber of name value ∷ later) scope apart is =
    split_or x name (object_names later) (IsObject x (with_all (with_object name scope) later)) is
    (λ same. all_keep_object x later (with_object name scope) (apart_first x name (local_names later) same apart) (first_object x name scope same)) (object_there x later (with_object name scope) (apart_later name (local_names later) apart))
object_there x (local.StaticNumbers of name n values ∷ later) scope apart is =
    split_or x name (object_names later) (IsObject x (with_all (with_array name scope) later)) is
    (λ same. all_keep_object x later (with_array name scope) (apart_first x name (local_names later) same apart) (first_object x name scope same)) (object_there x later (with_array name scope) (apart_later name (local_names later) apart))
object_there x (local.StaticChars name n text ∷ later) scope apart is =
    split_or x name (object_names later) (IsObject x (with_all (with_array name scope) later)) is
    (λ same. all_keep_object x later (with_array name scope) (apart_first x name (local_names later) same apart) (first_object x name scope same)) (object_there x later (with_array name scope) (apart_later name (local_names later) apart))
object_there x (local.StaticList of name fields ∷ later) scope apart is =
    split_or x name (object_names later) (IsObject x (with_all (with_object name scope) later)) is
    (λ same. all_keep_object x later (with_object name scope) (apart_first x name (local_names later) same apart) (first_object x name scope same)) (object_there x later (with_object name scope) (apart_later name (local_names later) apart))
object_there x (local.Number of name ∷ later) scope apart is =
    split_or x name (object_names later) (IsObject x (with_all (with_object name scope) later)) is
    (λ same. all_keep_object x later (with_object name scope) (apart_first x name (local_names later) same apart) (first_object x name scope same)) (object_there x later (with_object name scope) (apart_later name (local_names later) apart))
object_there x (local.Numbers of name n ∷ later) scope apart is =
    split_or x name (object_names later) (IsObject x (with_all (with_object name scope) later)) is
    (λ same. all_keep_object x later (with_object name scope) (apart_first x name (local_names later) same apart) (first_object x name scope same)) (object_there x later (with_object name scope) (apart_later name (local_names later) apart))
object_there x (local.Chars name n ∷ later) scope apart is =
    split_or x name (object_names later) (IsObject x (with_all (with_object name scope) later)) is
    (λ same. all_keep_object x later (with_object name scope) (apart_first x name (local_names later) same apart) (first_object x name scope same)) (object_there x later (with_object name scope) (apart_later name (local_names later) apart))
object_there x (local.Addresses name n ∷ later) scope apart is =
    split_or x name (object_names later) (IsObject x (with_all (with_object name scope) later)) is
    (λ same. all_keep_object x later (with_object name scope) (apart_first x name (local_names later) same apart) (first_object x name scope same)) (object_there x later (with_object name scope) (apart_later name (local_names later) apart))

pub function_there : (x : List ℕ) (ones : List CLocal) (scope : Scope) → AreApart (local_names ones) → is_among x (declared_externs ones) ≡ true → IsFunction x (with_all scope ones)
function_there x [] scope apart is = absurd (cc)
function_there x (local.Extern of name types ∷ later) scope apart is =
    split_or x name (declared_externs later) (IsFunction x (with_all (with_function name scope) later)) is
    (λ same. all_keep_function x later (with_function name scope) (apart_first x name (local_names later) same apart) (or_left (bytes_eq x name) (is_among x (without name scope.functions)) same))
    (function_there x later (with_function name scope) (apart_later name (local_names later) apart))
function_there x (other ∷ later) scope apart is = function_there x later (with_declared other (local_name other) scope) (apart_later (local_name other) (local_names later) apart) is

-- ## What is linked

statics_are_objects : (x : List ℕ) (ones : List CLocal) → is_among x (names_of (declared_statics ones)) ≡ true → is_among x (object_names ones) ≡ true
statics_are_objects x [] is = is
statics_are_objects x (local.Extern of name types ∷ later) is = statics_are_objects x later is
statics_are_objects x (local.StaticNumber of name value ∷ later) is = split_or x name (names_of (declared_statics later)) (is_among x (name ∷ object_names later) ≡ true) is (or_left (bytes_eq x name) (is_among x (object_names later))) (λ h. or_right (bytes_eq x name) (is_among x (object_names later)) (statics_are_objects x later h))
statics_are_objects x (local.StaticNumbers of name n values ∷ later) is = split_or x name (names_of (declared_statics later)) (is_among x (name ∷ object_names later) ≡ true) is (or_left (bytes_eq x name) (is_among x (object_names later))) (λ h. or_right (bytes_eq x name) (is_among x (object_names later)) (statics_are_objects x later h))
statics_are_objects x (local.StaticChars name n text ∷ later) is = split_or x name (names_of (declared_statics later)) (is_among x (name ∷ object_names later) ≡ true) is (or_left (bytes_eq x name) (is_among x (object_names later))) (λ h. or_right (bytes_eq x name) (is_among x (object_names later)) (statics_are_objects x later h))
statics_are_objects x (local.StaticList of name fields ∷ later) is = split_or x name (names_of (declared_statics later)) (is_among x (name ∷ object_names later) ≡ true) is (or_left (bytes_eq x name) (is_among x (object_names later))) (λ h. or_right (bytes_eq x name) (is_among x (object_names later)) (statics_are_objects x later h))
statics_are_objects x (local.Number of name ∷ later) is = or_right (bytes_eq x name) (is_among x (object_names later)) (statics_are_objects x later is)
statics_are_objects x (local.Numbers of name n ∷ later) is = or_right (bytes_eq x name) (is_among x (object_names later)) (statics_are_objects x later is)
statics_are_objects x (local.Chars name n ∷ later) is = or_right (bytes_eq x name) (is_among x (object_names later)) (statics_are_objects x later is)
statics_are_objects x (local.Addresses name n ∷ later) is = or_right (bytes_eq x name) (is_among x (object_names later)) (statics_are_objects x later is)

automatics_are_objects : (x : List ℕ) (ones : List CLocal) → is_among x (names_of (declared_automatics ones)) ≡ true → is_among x (object_names ones) ≡ true
automatics_are_objects x [] is = is
automatics_are_objects x (local.Extern of name types ∷ later) is = automatics_are_objects x later is
automatics_are_objects x (local.StaticNumber of name value ∷ later) is = or_right (bytes_eq x name) (is_among x (object_names later)) (automatics_are_objects x later is)
automatics_are_objects x (local.StaticNumbers of name n values ∷ later) is = or_right (bytes_eq x name) (is_among x (object_names later)) (automatics_are_objects x later is)
automatics_are_objects x (local.StaticChars name n text ∷ later) is = or_right (bytes_eq x name) (is_among x (object_names later)) (automatics_are_objects x later is)
automatics_are_objects x (local.StaticList of name fields ∷ later) is = or_right (bytes_eq x name) (is_among x (object_names later)) (automatics_are_objects x later is)
automatics_are_objects x (local.Number of name ∷ later) is = split_or x name (names_of (declared_automatics later)) (is_among x (name ∷ object_names later) ≡ true) is (or_left (bytes_eq x name) (is_among x (object_names later))) (λ h. or_right (bytes_eq x name) (is_among x (object_names later)) (automatics_are_objects x later h))
automatics_are_objects x (local.Numbers of name n ∷ later) is = split_or x name (names_of (declared_automatics later)) (is_among x (name ∷ object_names later) ≡ true) is (or_left (bytes_eq x name) (is_among x (object_names later))) (λ h. or_right (bytes_eq x name) (is_among x (object_names later)) (automatics_are_objects x later h))
automatics_are_objects x (local.Chars name n ∷ later) is = split_or x name (names_of (declared_automatics later)) (is_among x (name ∷ object_names later) ≡ true) is (or_left (bytes_eq x name) (is_among x (object_names later))) (λ h. or_right (bytes_eq x name) (is_among x (object_names later)) (automatics_are_objects x later h))
automatics_are_objects x (local.Addresses name n ∷ later) is = split_or x name (names_of (declared_automatics later)) (is_among x (name ∷ object_names later) ≡ true) is (or_left (bytes_eq x name) (is_among x (object_names later))) (λ h. or_right (bytes_eq x name) (is_among x (object_names later)) (automatics_are_objects x later h))

none_first : (x name : List ℕ) (some names : List (List ℕ)) → is_among x (name ∷ some) ≡ false → (is_among x some ≡ false → is_among x names ≡ false) → is_among x (name ∷ names) ≡ false
none_first x name some names h later = none_both (bytes_eq x name) (is_among x names) (none_left (bytes_eq x name) (is_among x some) h) (later (none_right (bytes_eq x name) (is_among x some) h))

-- a name of no object that lasts, no object of the frame and no function is none of a declaration
none_of_all : (x : List ℕ) (ones : List CLocal) → is_among x (names_of (declared_statics ones)) ≡ false → is_among x (names_of (declared_automatics ones)) ≡ false → is_among x (declared_externs ones) ≡ false → is_among x (local_names ones) ≡ false
none_of_all x [] s a e = refl
none_of_all x (local.Extern of name types ∷ later) s a e = none_first x name (declared_externs later) (local_names later) e (λ h. none_of_all x later s a h)
none_of_all x (local.StaticNumber of name value ∷ later) s a e = none_first x name (names_of (declared_statics later)) (local_names later) s (λ h. none_of_all x later h a e)
none_of_all x (local.StaticNumbers of name n values ∷ later) s a e = none_first x name (names_of (declared_statics later)) (local_names later) s (λ h. none_of_all x later h a e)
none_of_all x (local.StaticChars name n text ∷ later) s a e = none_first x name (names_of (declared_statics later)) (local_names later) s (λ h. none_of_all x later h a e)
none_of_all x (local.StaticList of name fields ∷ later) s a e = none_first x name (names_of (declared_statics later)) (local_names later) s (λ h. none_of_all x later h a e)
none_of_all x (local.Number of name ∷ later) s a e = none_first x name (names_of (declared_automatics later)) (local_names later) a (λ h. none_of_all x later s h e)
none_of_all x (local.Numbers of name n ∷ later) s a e = none_first x name (names_of (declared_automatics later)) (local_names later) a (λ h. none_of_all x later s h e)
none_of_all x (local.Chars name n ∷ later) s a e = none_first x name (names_of (declared_automatics later)) (local_names later) a (λ h. none_of_all x later s h e)
none_of_all x (local.Addresses name n ∷ later) s a e = none_first x name (names_of (declared_automatics later)) (local_names later) a (λ h. none_of_all x later s h e)

-- ## What a name stands for

-- an object, and a function
abbrev pub is_place : Term → Bool
is_place (Variable k access) = true
is_place (Array k access) = true
is_place other = false

abbrev pub is_routine : Term → Bool
is_routine (Routine k) = true
is_routine other = false

-- a parameter that points to a function
abbrev pub is_pointer : Term → Bool
is_pointer (Variable k ToFunction) = true
is_pointer other = false

-- objects that are neither
abbrev StandForObjects : List Declared → Type 0
StandForObjects [] = Unit {0}
StandForObjects (d ∷ later) = ((m : ℕ) → (is_routine (d.stands m) ≡ false) × (is_pointer (d.stands m) ≡ false)) × StandForObjects later

statics_stand : (ones : List CLocal) → StandForObjects (declared_statics ones)
statics_stand [] = tt
statics_stand (local.Extern of name types ∷ later) = statics_stand later
statics_stand (local.StaticNumber of name value ∷ later) = ((λ m. (refl, refl)), statics_stand later)
statics_stand (local.StaticNumbers of name n values ∷ later) = ((λ m. (refl, refl)), statics_stand later)
statics_stand (local.StaticChars name n text ∷ later) = ((λ m. (refl, refl)), statics_stand later)
statics_stand (local.StaticList of name fields ∷ later) = ((λ m. (refl, refl)), statics_stand later)
statics_stand (local.Number of name ∷ later) = statics_stand later
statics_stand (local.Numbers of name n ∷ later) = statics_stand later
statics_stand (local.Chars name n ∷ later) = statics_stand later
statics_stand (local.Addresses name n ∷ later) = statics_stand later

automatics_stand : (ones : List CLocal) → StandForObjects (declared_automatics ones)
automatics_stand [] = tt
automatics_stand (local.Extern of name types ∷ later) = automatics_stand later
automatics_stand (local.StaticNumber of name value ∷ later) = automatics_stand later
automatics_stand (local.StaticNumbers of name n values ∷ later) = automatics_stand later
automatics_stand (local.StaticChars name n text ∷ later) = automatics_stand later
automatics_stand (local.StaticList of name fields ∷ later) = automatics_stand later
automatics_stand (local.Number of name ∷ later) = ((λ m. (refl, refl)), automatics_stand later)
automatics_stand (local.Numbers of name n ∷ later) = ((λ m. (refl, refl)), automatics_stand later)
automatics_stand (local.Chars name n ∷ later) = ((λ m. (refl, refl)), automatics_stand later)
automatics_stand (local.Addresses name n ∷ later) = ((λ m. (refl, refl)), automatics_stand later)

constants_stand : (constants : List CConstant) → StandForObjects (declared_constants constants)
constants_stand [] = tt
constants_stand (one ∷ later) = ((λ m. (refl, refl)), constants_stand later)

past_objects : (number : ℕ) (ds : List Declared) (outer : linking.Scope) (x : List ℕ) → is_among x (names_of ds) ≡ false → known_objects number ds outer x ≡ outer x
past_objects number [] outer x none = refl
past_objects number (d ∷ later) outer x none =
    skipped (bytes_eq x d.name) (d.stands number) (known_objects (number + 1) later outer x) (none_left (bytes_eq x d.name) (is_among x (names_of later)) none)
    ∙ past_objects (number + 1) later outer x (none_right (bytes_eq x d.name) (is_among x (names_of later)) none)

past_functions : (numbers : Routines) (known : List (List ℕ)) (outer : linking.Scope) (x : List ℕ) → is_among x known ≡ false → known_functions numbers known outer x ≡ outer x
past_functions numbers [] outer x none = refl
past_functions numbers (name ∷ later) outer x none =
    skipped (bytes_eq x name) (routine (numbers x)) (known_functions numbers later outer x) (none_left (bytes_eq x name) (is_among x later) none)
    ∙ past_functions numbers later outer x (none_right (bytes_eq x name) (is_among x later) none)

at_function : (numbers : Routines) (known : List (List ℕ)) (outer : linking.Scope) (x : List ℕ) → is_among x known ≡ true → known_functions numbers known outer x ≡ routine (numbers x)
at_function numbers [] outer x is = absurd (cc)
at_function numbers (name ∷ later) outer x is = by (bytes_eq x name) is (at_function numbers later outer x)
  where
    by : (b : Bool) → (b || is_among x later) ≡ true → (is_among x later ≡ true → known_functions numbers later outer x ≡ routine (numbers x)) → (if b then routine (numbers x) else known_functions numbers later outer x) ≡ routine (numbers x)
    by true h again = refl
    by false h again = again h

no_place : (found : Option ℕ) → is_place (routine found) ≡ true → {A : Type 0} → A
no_place None h = absurd (cc)
no_place (Some k) h = absurd (cc)

-- objects that stand for none of a kind
abbrev StandForNone : (Term → Bool) → List Declared → Type 0
StandForNone is [] = Unit {0}
StandForNone is (d ∷ later) = ((m : ℕ) → is (d.stands m) ≡ false) × StandForNone is later

no_functions : (ds : List Declared) → StandForObjects ds → StandForNone is_routine ds
no_functions [] stand = tt
no_functions (d ∷ later) stand = ((λ m. (stand.0 m).0), no_functions later stand.1)

no_pointers : (ds : List Declared) → StandForObjects ds → StandForNone is_pointer ds
no_pointers [] stand = tt
no_pointers (d ∷ later) stand = ((λ m. (stand.0 m).1), no_pointers later stand.1)

-- what is of the kind is none of these
is_outside : (kind : Term → Bool) (number : ℕ) (ds : List Declared) (outer : linking.Scope) (x : List ℕ) → StandForNone kind ds → kind (known_objects number ds outer x) ≡ true → (is_among x (names_of ds) ≡ false) × (kind (outer x) ≡ true)
is_outside kind number [] outer x stand is = (refl, is)
is_outside kind number (d ∷ later) outer x stand is = by (bytes_eq x d.name) is (is_outside kind (number + 1) later outer x stand.1)
  where
    by : (b : Bool) → kind (if b then d.stands number else known_objects (number + 1) later outer x) ≡ true
        → (kind (known_objects (number + 1) later outer x) ≡ true → (is_among x (names_of later) ≡ false) × (kind (outer x) ≡ true)) → ((b || is_among x (names_of later)) ≡ false) × (kind (outer x) ≡ true)
    by true h again = let no : true ≡ false = sym h ∙ stand.0 number in absurd (cc)
    by false h again = again h

-- nor is one of these a parameter
no_pointer_here : (number : ℕ) (ds : List Declared) (outer : linking.Scope) (x : List ℕ) → StandForObjects ds → is_pointer (outer x) ≡ false → is_pointer (known_objects number ds outer x) ≡ false
no_pointer_here number [] outer x stand none = none
no_pointer_here number (d ∷ later) outer x stand none = by (bytes_eq x d.name) (no_pointer_here (number + 1) later outer x stand.1 none)
  where
    by : (b : Bool) → is_pointer (known_objects (number + 1) later outer x) ≡ false → is_pointer (if b then d.stands number else known_objects (number + 1) later outer x) ≡ false
    by true again = (stand.0 number).1
    by false again = again

routine_no_pointer : (found : Option ℕ) → is_pointer (routine found) ≡ false
routine_no_pointer None = refl
routine_no_pointer (Some k) = refl

no_pointer_called : (numbers : Routines) (known : List (List ℕ)) (outer : linking.Scope) (x : List ℕ) → is_pointer (outer x) ≡ false → is_pointer (known_functions numbers known outer x) ≡ false
no_pointer_called numbers [] outer x none = none
no_pointer_called numbers (name ∷ later) outer x none = by (bytes_eq x name) (no_pointer_called numbers later outer x none)
  where
    by : (b : Bool) → is_pointer (known_functions numbers later outer x) ≡ false → is_pointer (if b then routine (numbers x) else known_functions numbers later outer x) ≡ false
    by true again = routine_no_pointer (numbers x)
    by false again = again

no_pointer_included : (x : List ℕ) → is_pointer (included x) ≡ false
no_pointer_included x = by (bytes_eq x (codes "TRUE_")) (bytes_eq x (codes "FALSE_"))
  where
    by : (a b : Bool) → is_pointer (if a then Constant (pos 1) else if b then Constant (pos 0) else Unknown) ≡ false
    by true b = refl
    by false true = refl
    by false false = refl

no_included_place : (x : List ℕ) → is_place (included x) ≡ true → {A : Type 0} → A
no_included_place x h = by (bytes_eq x (codes "TRUE_")) (bytes_eq x (codes "FALSE_")) h
  where
    by : (a b : Bool) → is_place (if a then Constant (pos 1) else if b then Constant (pos 0) else Unknown) ≡ true → {A : Type 0} → A
    by true b h = absurd (cc)
    by false true h = absurd (cc)
    by false false h = absurd (cc)

no_included_routine : (x : List ℕ) → is_routine (included x) ≡ true → {A : Type 0} → A
no_included_routine x h = by (bytes_eq x (codes "TRUE_")) (bytes_eq x (codes "FALSE_")) h
  where
    by : (a b : Bool) → is_routine (if a then Constant (pos 1) else if b then Constant (pos 0) else Unknown) ≡ true → {A : Type 0} → A
    by true b h = absurd (cc)
    by false true h = absurd (cc)
    by false false h = absurd (cc)

constants_keep : (x : List ℕ) (constants : List CConstant) (scope : Scope) → IsObject x scope → IsObject x (with_constants scope constants)
constants_keep x [] scope is = is
constants_keep x (one ∷ later) scope is = constants_keep x later (with_object one.name scope) (declared_still x one.name scope.objects is)

constant_there : (x : List ℕ) (constants : List CConstant) (scope : Scope) → is_among x (names_of (declared_constants constants)) ≡ true → IsObject x (with_constants scope constants)
constant_there x [] scope is = absurd (cc)
constant_there x (one ∷ later) scope is =
    split_or x one.name (names_of (declared_constants later)) (IsObject x (with_constants (with_object one.name scope) later)) is
    (λ same. constants_keep x later (with_object one.name scope) (first_object x one.name scope same)) (constant_there x later (with_object one.name scope))

-- ## Parameters

abbrev pub parameter_names : List CParam → List (List ℕ)
parameter_names params = map (λ (p : CParam). p.name) params

abbrev pub with_params : Scope → List CParam → Scope
with_params scope [] = scope
with_params scope (p ∷ later) = with_params (with_parameter p.of p.name scope) later

-- a parameter is an object, and one of a function points to that
takes : (P : Scope → Type 0) (of : ParameterType) (name : List ℕ) (scope : Scope) → P (with_pointer name scope) → P (with_object name scope) → P (with_parameter of name scope)
takes P (parameter.Function type) name scope p o = p
takes P parameter.Integers name scope p o = o
takes P parameter.Logicals name scope p o = o
takes P parameter.Chars name scope p o = o
takes P parameter.Length name scope p o = o
takes P parameter.Int name scope p o = o

params_keep_object : (x : List ℕ) (params : List CParam) (scope : Scope) → IsObject x scope → IsObject x (with_params scope params)
params_keep_object x [] scope is = is
params_keep_object x (p ∷ later) scope is =
    let still = declared_still x p.name scope.objects is in params_keep_object x later (with_parameter p.of p.name scope) (takes (IsObject x) p.of p.name scope still still)

params_keep_function : (x : List ℕ) (params : List CParam) (scope : Scope) → is_among x (parameter_names params) ≡ false → IsFunction x scope → IsFunction x (with_params scope params)
params_keep_function x [] scope none is = is
params_keep_function x (p ∷ later) scope none is =
    let kept = without_keeps x p.name scope.functions (none_left (bytes_eq x p.name) (is_among x (parameter_names later)) none) is in
    params_keep_function x later (with_parameter p.of p.name scope) (none_right (bytes_eq x p.name) (is_among x (parameter_names later)) none) (takes (IsFunction x) p.of p.name scope kept kept)

params_keep_pointer : (x : List ℕ) (params : List CParam) (scope : Scope) → is_among x (parameter_names params) ≡ false → IsPointer x scope → IsPointer x (with_params scope params)
params_keep_pointer x [] scope none is = is
params_keep_pointer x (p ∷ later) scope none is =
    let kept = without_keeps x p.name scope.pointers (none_left (bytes_eq x p.name) (is_among x (parameter_names later)) none) is in
    params_keep_pointer x later (with_parameter p.of p.name scope) (none_right (bytes_eq x p.name) (is_among x (parameter_names later)) none)
    (takes (IsPointer x) p.of p.name scope (or_right (bytes_eq x p.name) (is_among x (without p.name scope.pointers)) kept) kept)

parameter_there : (x : List ℕ) (params : List CParam) (scope : Scope) → is_among x (parameter_names params) ≡ true → IsObject x (with_params scope params)
parameter_there x [] scope is = absurd (cc)
parameter_there x (p ∷ later) scope is =
    split_or x p.name (parameter_names later) (IsObject x (with_params (with_parameter p.of p.name scope) later)) is
    (λ same. let first = first_object x p.name scope same in params_keep_object x later (with_parameter p.of p.name scope) (takes (IsObject x) p.of p.name scope first first)) (parameter_there x later (with_parameter p.of p.name scope))

pointer_first : (x : List ℕ) (of : ParameterType) (number : ℕ) (name : List ℕ) (scope : Scope) → is_pointer (Variable number (parameter_access of)) ≡ true → bytes_eq x name ≡ true → IsPointer x (with_parameter of name scope)
pointer_first x (parameter.Function type) number name scope is same = or_left (bytes_eq x name) (is_among x (without name scope.pointers)) same
pointer_first x parameter.Integers number name scope is same = absurd (cc)
pointer_first x parameter.Logicals number name scope is same = absurd (cc)
pointer_first x parameter.Chars number name scope is same = absurd (cc)
pointer_first x parameter.Length number name scope is same = absurd (cc)
pointer_first x parameter.Int number name scope is same = absurd (cc)

pointer_there : (number : ℕ) (params : List CParam) (more : List Declared) (outer : linking.Scope) (x : List ℕ) (scope : Scope) → AreApart (parameter_names params) → is_among x (parameter_names params) ≡ true
    → is_pointer (known_objects number (declared_parameters params ++ more) outer x) ≡ true → IsPointer x (with_params scope params)
pointer_there number [] more outer x scope apart is points = absurd (cc)
pointer_there number (p ∷ later) more outer x scope apart is points =
    by (bytes_eq x p.name) refl is points (pointer_there (number + 1) later more outer x (with_parameter p.of p.name scope) (apart_later p.name (parameter_names later) apart))
  where
    by : (b : Bool) → bytes_eq x p.name ≡ b → (b || is_among x (parameter_names later)) ≡ true → is_pointer (if b then Variable number (parameter_access p.of) else known_objects (number + 1) (declared_parameters later ++ more) outer x) ≡ true
        → (is_among x (parameter_names later) ≡ true → is_pointer (known_objects (number + 1) (declared_parameters later ++ more) outer x) ≡ true → IsPointer x (with_params (with_parameter p.of p.name scope) later))
        → IsPointer x (with_params (with_parameter p.of p.name scope) later)
    by true same h here again = params_keep_pointer x later (with_parameter p.of p.name scope) (apart_first x p.name (parameter_names later) same apart) (pointer_first x p.of number p.name scope here same)
    by false other h there again = again h there

-- what is none of them points to no function, where what is behind them does not
no_pointer_among : (number : ℕ) (params : List CParam) (more : List Declared) (outer : linking.Scope) (x : List ℕ) → is_among x (parameter_names params) ≡ false → StandForObjects more → is_pointer (outer x) ≡ false
    → is_pointer (known_objects number (declared_parameters params ++ more) outer x) ≡ false
no_pointer_among number [] more outer x none stand nowhere = no_pointer_here number more outer x stand nowhere
no_pointer_among number (p ∷ later) more outer x none stand nowhere = by (bytes_eq x p.name) none (λ h. no_pointer_among (number + 1) later more outer x h stand nowhere)
  where
    by : (b : Bool) → (b || is_among x (parameter_names later)) ≡ false → (is_among x (parameter_names later) ≡ false → is_pointer (known_objects (number + 1) (declared_parameters later ++ more) outer x) ≡ false)
        → is_pointer (if b then Variable number (parameter_access p.of) else known_objects (number + 1) (declared_parameters later ++ more) outer x) ≡ false
    by true h again = absurd (cc)
    by false h again = again h

parameters_no_functions : (params : List CParam) (more : List Declared) → StandForNone is_routine more → StandForNone is_routine (declared_parameters params ++ more)
parameters_no_functions [] more stand = stand
parameters_no_functions (p ∷ later) more stand = ((λ m. refl), parameters_no_functions later more stand)

framed_names : (params : List CParam) (more : List Declared) → names_of (declared_parameters params ++ more) ≡ parameter_names params ++ names_of more
framed_names [] more = refl
framed_names (p ∷ later) more = ap (λ names. p.name ∷ names) (framed_names later more)

among_either : (x : List ℕ) (names more : List (List ℕ)) (P : Type 0) → is_among x (names ++ more) ≡ true → (is_among x names ≡ true → P) → (is_among x more ≡ true → P) → P
among_either x [] more P is one other = other is
among_either x (y ∷ names) more P is one other =
    split_or x y (names ++ more) P is (λ same. one (or_left (bytes_eq x y) (is_among x names) same)) (λ later. among_either x names more P later (λ h. one (or_right (bytes_eq x y) (is_among x names) h)) other)

pub none_in_first : (x : List ℕ) (names more : List (List ℕ)) → is_among x (names ++ more) ≡ false → is_among x names ≡ false
none_in_first x [] more none = refl
none_in_first x (y ∷ names) more none =
    none_both (bytes_eq x y) (is_among x names) (none_left (bytes_eq x y) (is_among x (names ++ more)) none) (none_in_first x names more (none_right (bytes_eq x y) (is_among x (names ++ more)) none))

none_in_last : (x : List ℕ) (names more : List (List ℕ)) → is_among x (names ++ more) ≡ false → is_among x more ≡ false
none_in_last x [] more none = none
none_in_last x (y ∷ names) more none = none_in_last x names more (none_right (bytes_eq x y) (is_among x (names ++ more)) none)

-- ## A function, inside what is around it

-- what is around a function: an object and a function there are declared, and no parameter
pub record IsAround (links : linking.Scope) (scope : Scope) : Type 0 where
  pub objects : (x : List ℕ) → is_place (links x) ≡ true → IsObject x scope
  pub functions : (x : List ℕ) → is_routine (links x) ≡ true → IsFunction x scope
  pub no_pointer : (x : List ℕ) → is_pointer (links x) ≡ false

module _ (numbers : Routines) (base frame : ℕ) (params : List CParam) (ones : List CLocal) (links : linking.Scope) (scope : Scope) (around : IsAround links scope) (first : AreApart (parameter_names params)) (apart : AreApart (local_names ones))
    (differ : (x : List ℕ) → is_among x (parameter_names params) ≡ true → is_among x (local_names ones) ≡ false) where
  abbrev called_links : linking.Scope
  called_links = known_functions numbers (declared_externs ones) links

  abbrev frame_links : linking.Scope
  frame_links = known_objects frame (declared_parameters params ++ declared_automatics ones) called_links

  abbrev all_links : linking.Scope
  all_links = known_objects base (declared_statics ones) frame_links

  abbrev entered : Scope
  entered = with_params scope params

  framed_is : (x : List ℕ) (b : Bool) → is_among x (names_of (declared_parameters params ++ declared_automatics ones)) ≡ b → is_among x (parameter_names params ++ names_of (declared_automatics ones)) ≡ b
  framed_is x b h = ap (is_among x) (sym (framed_names params (declared_automatics ones))) ∙ h

  object_declared : (x : List ℕ) → is_place (all_links x) ≡ true → IsObject x (with_all entered ones)
  object_declared x is = lasting (is_among x (names_of (declared_statics ones))) refl
    where
      called : (b : Bool) → is_among x (declared_externs ones) ≡ b → is_place (called_links x) ≡ true → is_among x (names_of (declared_statics ones)) ≡ false → is_among x (names_of (declared_automatics ones)) ≡ false → IsObject x (with_all entered ones)
      called true h k s a = no_place (numbers x) (ap is_place (sym (at_function numbers (declared_externs ones) links x h)) ∙ k)
      called false h k s a =
          all_keep_object x ones entered (none_of_all x ones s a h) (params_keep_object x params scope (around.objects x (ap is_place (sym (past_functions numbers (declared_externs ones) links x h)) ∙ k)))

      framed : (b : Bool) → is_among x (names_of (declared_parameters params ++ declared_automatics ones)) ≡ b → is_place (frame_links x) ≡ true → is_among x (names_of (declared_statics ones)) ≡ false → IsObject x (with_all entered ones)
      framed true h k s =
          among_either x (parameter_names params) (names_of (declared_automatics ones)) (IsObject x (with_all entered ones)) (framed_is x true h) (λ p. all_keep_object x ones entered (differ x p) (parameter_there x params scope p))
          (λ a. object_there x ones entered apart (automatics_are_objects x ones a))
      framed false h k s =
          called (is_among x (declared_externs ones)) refl (ap is_place (sym (past_objects frame (declared_parameters params ++ declared_automatics ones) called_links x h)) ∙ k) s
          (none_in_last x (parameter_names params) (names_of (declared_automatics ones)) (framed_is x false h))

      lasting : (b : Bool) → is_among x (names_of (declared_statics ones)) ≡ b → IsObject x (with_all entered ones)
      lasting true h = object_there x ones entered apart (statics_are_objects x ones h)
      lasting false h =
          framed (is_among x (names_of (declared_parameters params ++ declared_automatics ones))) refl (ap is_place (sym (past_objects base (declared_statics ones) frame_links x h)) ∙ is) h

  function_declared : (x : List ℕ) → is_routine (all_links x) ≡ true → IsFunction x (with_all entered ones)
  function_declared x is =
      let one = is_outside is_routine base (declared_statics ones) frame_links x (no_functions (declared_statics ones) (statics_stand ones)) is in
      let two = is_outside is_routine frame (declared_parameters params ++ declared_automatics ones) called_links x
      (parameters_no_functions params (declared_automatics ones) (no_functions (declared_automatics ones) (automatics_stand ones))) one.1 in
      called (is_among x (declared_externs ones)) refl one.0 (framed_is x false two.0) two.1
    where
      called : (b : Bool) → is_among x (declared_externs ones) ≡ b → is_among x (names_of (declared_statics ones)) ≡ false → is_among x (parameter_names params ++ names_of (declared_automatics ones)) ≡ false → is_routine (called_links x) ≡ true
          → IsFunction x (with_all entered ones)
      called true h s a k = function_there x ones entered apart h
      called false h s a k =
          all_keep_function x ones entered (none_of_all x ones s (none_in_last x (parameter_names params) (names_of (declared_automatics ones)) a) h)
          (params_keep_function x params scope (none_in_first x (parameter_names params) (names_of (declared_automatics ones)) a)
          (around.functions x (ap is_routine (sym (past_functions numbers (declared_externs ones) links x h)) ∙ k)))

  pointer_declared : (x : List ℕ) → is_pointer (all_links x) ≡ true → IsPointer x (with_all entered ones)
  pointer_declared x is =
      let one = is_outside is_pointer base (declared_statics ones) frame_links x (no_pointers (declared_statics ones) (statics_stand ones)) is in
      framed (is_among x (parameter_names params)) refl one.1
    where
      framed : (b : Bool) → is_among x (parameter_names params) ≡ b → is_pointer (frame_links x) ≡ true → IsPointer x (with_all entered ones)
      framed true h k = all_keep_pointer x ones entered (differ x h) (pointer_there frame params (declared_automatics ones) called_links x scope first h k)
      framed false h k =
          let no : true ≡ false =
          sym k ∙ no_pointer_among frame params (declared_automatics ones) called_links x h (automatics_stand ones) (no_pointer_called numbers (declared_externs ones) links x (around.no_pointer x)) in
          absurd (cc)

  pub names_agree : Agrees all_links (with_all entered ones)
  names_agree = record {
    variables = λ name k access h. declared_before (an_object (object_declared name (ap is_place h)));
    arrays = λ name k access h. declared_before (an_object (object_declared name (ap is_place h)));
    functions = λ name k h. function_declared name (ap is_routine h);
    pointers = λ name k h. pointer_declared name (ap is_pointer h);
  }

-- ## Around a main program: constants, and its own name

module _ (numbers : Routines) (first : ℕ) (main : List ℕ) (constants : List CConstant) (other : is_among main (names_of (declared_constants constants)) ≡ false) where
  abbrev file_links : linking.Scope
  file_links = known_objects first (declared_constants constants) (known_functions numbers (main ∷ []) included)

  abbrev outer_scope : Scope
  outer_scope = with_function main (with_constants no_names constants)

  object_around : (x : List ℕ) → is_place (file_links x) ≡ true → IsObject x outer_scope
  object_around x is = by (is_among x (names_of (declared_constants constants))) refl
    where
      by : (b : Bool) → is_among x (names_of (declared_constants constants)) ≡ b → IsObject x outer_scope
      by true h =
          without_keeps x main (with_constants no_names constants).objects
          (other_bytes x main (λ same. let no : true ≡ false = sym h ∙ ap (λ y. is_among y (names_of (declared_constants constants))) same ∙ other in absurd (cc))) (constant_there x constants no_names h)
      by false h = again (bytes_eq x main) (ap is_place (sym (past_objects first (declared_constants constants) (known_functions numbers (main ∷ []) included) x h)) ∙ is)
        where
          again : (b : Bool) → is_place (if b then routine (numbers x) else included x) ≡ true → IsObject x outer_scope
          again true k = no_place (numbers x) k
          again false k = no_included_place x k

  function_around : (x : List ℕ) → is_routine (file_links x) ≡ true → IsFunction x outer_scope
  function_around x is =
      by (bytes_eq x main) refl
      (is_outside is_routine first (declared_constants constants) (known_functions numbers (main ∷ []) included) x (no_functions (declared_constants constants) (constants_stand constants)) is).1
    where
      by : (b : Bool) → bytes_eq x main ≡ b → is_routine (if b then routine (numbers x) else included x) ≡ true → IsFunction x outer_scope
      by true h k = or_left (bytes_eq x main) (is_among x (without main (with_constants no_names constants).functions)) h
      by false h k = no_included_routine x k

  pub around_main : IsAround file_links outer_scope
  around_main = record {
    objects = object_around;
    functions = function_around;
    no_pointer = λ x. no_pointer_here first (declared_constants constants) (known_functions numbers (main ∷ []) included) x (constants_stand constants) (no_pointer_called numbers (main ∷ []) included x (no_pointer_included x));
  }

-- ## Around one of several functions: constants, and the functions before it with its own

abbrev pub with_functions : Scope → List (List ℕ) → Scope
with_functions scope [] = scope
with_functions scope (name ∷ later) = with_functions (with_function name scope) later

functions_keep_object : (x : List ℕ) (names : List (List ℕ)) (scope : Scope) → is_among x names ≡ false → IsObject x scope → IsObject x (with_functions scope names)
functions_keep_object x [] scope none is = is
functions_keep_object x (name ∷ later) scope none is =
    functions_keep_object x later (with_function name scope) (none_right (bytes_eq x name) (is_among x later) none)
    (without_keeps x name scope.objects (none_left (bytes_eq x name) (is_among x later) none) is)

module _ (first : ℕ) (constants : List CConstant) (names : List (List ℕ)) (apart : (x : List ℕ) → is_among x (names_of (declared_constants constants)) ≡ true → is_among x names ≡ false) where
  abbrev constant_links : linking.Scope
  constant_links = known_objects first (declared_constants constants) included

  constant_around : (x : List ℕ) → is_place (constant_links x) ≡ true → IsObject x (with_functions (with_constants no_names constants) names)
  constant_around x is = by (is_among x (names_of (declared_constants constants))) refl
    where
      by : (b : Bool) → is_among x (names_of (declared_constants constants)) ≡ b → IsObject x (with_functions (with_constants no_names constants) names)
      by true h = functions_keep_object x names (with_constants no_names constants) (apart x h) (constant_there x constants no_names h)
      by false h = no_included_place x (ap is_place (sym (past_objects first (declared_constants constants) included x h)) ∙ is)

  pub around_units : IsAround constant_links (with_functions (with_constants no_names constants) names)
  around_units = record {
    objects = constant_around;
    functions = λ x is. no_included_routine x (is_outside is_routine first (declared_constants constants) included x (no_functions (declared_constants constants) (constants_stand constants)) is).1;
    no_pointer = λ x. no_pointer_here first (declared_constants constants) included x (constants_stand constants) (no_pointer_included x);
  }
