-- Files that are well formed and linked: each function of their program stands whole, and its main program begins.
use Rattle.std.specs.Prelude.{◌≡◌, ℕ, suc, ◌+◌, ◌<◌, nat_lt, max, Bool, true, false, not, cond, ◌&&◌, ◌||◌, ◌⊎◌, List, [], ◌∷◌, ◌++◌, length, position, Option, Some, None, is_none, unwrap_or, bytes_eq, if◌then◌else◌}
use Rattle.std.specs.List.{list_any, position_or_len}
use Rattle.std.proofs.Common.{refl, sym, subst, ap, ◌∙◌, lt-ltb, inl, inr}
use Rattle.std.proofs.lemmas.List.Folds.{list_any-append}
use native.Mathlib.Omega.{arith}
use Rattle.c_laws.specs.c_tree.declared.declaration.CParam.{CParam}
use Rattle.c_laws.specs.c_tree.declared.file.CObject.{CObject}
use Rattle.c_laws.specs.c_tree.declared.file.CFunction.{CFunction}
use Rattle.c_laws.specs.c_tree.declared.file.CFile.{CFile}
use Rattle.c_laws.specs.c_tree.CWords.{is_among}
use Rattle.c_laws.specs.c_tree.CText.{WellFormed}
use Rattle.c_laws.specs.c_tree.Drafts.{Scope}
use Rattle.c_laws.specs.c_tree.Builtins.{builtin_names}
use Rattle.c_laws.specs.c_tree.Linking.{Function, Program, External, external, or_else, with_external, with_externals, externals_from, externals, external_number, function_names, all_functions, Routines, routines, parameter_types, linked_function, linked_functions, linked_file, linked_files, program, main_name, named, has_parameters, any_of, lacks_main, misses, broken_rule, first_broken_rule}
use Rattle.c_laws.specs.c_tree.Steps.{all_fit}
use Rattle.c_laws.specs.c_tree.Meaning.{text_of, main_number, meaning}
use Rattle.c_totality.specs.Sound.{Each}
use Rattle.c_totality.specs.Standing.{StandsWhole, MainBegins}
use Rattle.c_totality.specs.Totality.{AreWellFormed, one_file, AreLinked, each_kept, too_many_bytes, EachFunctionStands, EachMainBegins, NoRunIsWithoutMeaning}
use Rattle.c_totality.proofs.ListLaws.{both-ways, each-left, each-right, each-both, each-map, or-left, or-right, or-of-left, or-of-right, name-itself, FoundAt, found-at}
use Rattle.c_totality.proofs.FileSound.{IsFound, file-stands}
use Rattle.c_totality.proofs.RunSound.{runs-sound, sound-meant}

-- ## Names that are found

found-is : {A : Type 0} (test : A → Bool) (list : List A) → list_any test list ≡ true → is_none (position test list) ≡ false
found-is test list any = let it : FoundAt test list = found-at test list any in ap is_none it.is

-- a function of the program has a number
defined-found : (defined : List (List ℕ)) (name : List ℕ) → is_among name defined ≡ true → IsFound (routines defined) name
defined-found defined name among =
    found-is (bytes_eq name) (defined ++ builtin_names) (list_any-append (bytes_eq name) defined builtin_names ∙ or-of-left (is_among name defined) (is_among name builtin_names) among)

-- names that are among others
all-among : (names all : List (List ℕ)) → ((name : List ℕ) → is_among name names ≡ true → is_among name all ≡ true) → Each (λ name. is_among name all ≡ true) names
all-among [] all each = tt
all-among (first ∷ later) all each = (
  each first (or-of-left (bytes_eq first first) (is_among first later) (name-itself first)),
  all-among later all (λ name among. each name (or-of-right (bytes_eq name first) (is_among name later) among)),
)

names-append : (xs ys : List CFunction) → function_names (xs ++ ys) ≡ function_names xs ++ function_names ys
names-append [] ys = refl
names-append (x ∷ xs) ys = ap (λ l. x.name ∷ l) (names-append xs ys)

-- ## External objects

abbrev has : List ℕ → List External → Bool
has name objects = list_any (λ object. bytes_eq name object.name) objects

has-kept : (new : External) (known : List External) (name : List ℕ) → has name known ≡ true → has name (with_external new known) ≡ true
has-kept new [] name among = both-ways false among refl
has-kept new (first ∷ later) name among = by (bytes_eq new.name first.name) (in-tail (bytes_eq name first.name) among (has-kept new later name))
  where
    in-tail : (b : Bool) → (b || has name later) ≡ true → (has name later ≡ true → has name (with_external new later) ≡ true) → (b || has name (with_external new later)) ≡ true
    in-tail true among behind = refl
    in-tail false among behind = behind among

    by : (b : Bool) → has name (first ∷ with_external new later) ≡ true → has name (if b then record first { size = max first.size new.size; image = or_else first.image new.image } ∷ later else first ∷ with_external new later) ≡ true
    by true tail = among
    by false tail = tail

has-added : (new : External) (known : List External) → has new.name (with_external new known) ≡ true
has-added new [] = or-of-left (bytes_eq new.name new.name) false (name-itself new.name)
has-added new (first ∷ later) = by (bytes_eq new.name first.name) refl (has-added new later)
  where
    by : (b : Bool) → bytes_eq new.name first.name ≡ b → has new.name (with_external new later) ≡ true → has new.name (if b then record first { size = max first.size new.size; image = or_else first.image new.image } ∷ later else first ∷ with_external new later) ≡ true
    by true is behind = or-of-left (bytes_eq new.name first.name) (has new.name later) is
    by false is behind = or-of-right (bytes_eq new.name first.name) (has new.name (with_external new later)) behind

has-all-kept : (known : List External) (objects : List CObject) (name : List ℕ) → has name known ≡ true → has name (with_externals known objects) ≡ true
has-all-kept known [] name among = among
has-all-kept known (object ∷ later) name among = has-all-kept (with_external (external object) known) later name (has-kept (external object) known name among)

has-file-kept : (known : List External) (files : List CFile) (name : List ℕ) → has name known ≡ true → has name (externals_from known files) ≡ true
has-file-kept known [] name among = among
has-file-kept known (file ∷ later) name among = has-file-kept (with_externals known file.objects) later name (has-all-kept known file.objects name among)

abbrev HasObject : List External → CObject → Type 0
HasObject all object = has (external object).name all ≡ true

objects-added : (known : List External) (objects : List CObject) → Each (HasObject (with_externals known objects)) objects
objects-added known [] = tt
objects-added known (object ∷ later) =
    (has-all-kept (with_external (external object) known) later (external object).name (has-added (external object) known), objects-added (with_external (external object) known) later)

files-added : (known : List External) (files : List CFile) → Each (λ file. Each (HasObject (externals_from known files)) file.objects) files
files-added known [] = tt
files-added known (file ∷ later) =
    (each-map file.objects (λ object among. has-file-kept (with_externals known file.objects) later (external object).name among) (objects-added known file.objects), files-added (with_externals known file.objects) later)

-- ## Files

-- a file that is well formed, whose functions and objects are found, and where no function is missing
pub record IsFit (numbers : Routines) (places : List ℕ → Option ℕ) (file : CFile) : Type 0 where
  pub formed : WellFormed file
  pub functions_found : Each (IsFound numbers) (function_names file.functions)
  pub objects_found : Each (λ object. IsFound places (external object).name) file.objects
  pub none_missing : Each (λ function. misses numbers function ≡ false) file.functions

files-stand : (numbers : Routines) (places : List ℕ → Option ℕ) (own base : ℕ) (files : List CFile) → Each (IsFit numbers places) files → Each StandsWhole (linked_files numbers places own base files).functions
files-stand numbers places own base [] fit = tt
files-stand numbers places own base (file ∷ later) fit =
    each-both StandsWhole (linked_file numbers places own base file).functions (linked_files numbers places own (base + length (linked_file numbers places own base file).objects) later).functions
    (file-stands {file = file} (record { numbers = numbers; places = places; base = base; functions_found = fit.0.functions_found; objects_found = fit.0.objects_found }) own fit.0.formed.reads fit.0.none_missing)
    (files-stand numbers places own (base + length (linked_file numbers places own base file).objects) later fit.1)

none-of : {A : Type 0} (test : A → Bool) (list : List A) → any_of test list ≡ false → Each (λ x. test x ≡ false) list
none-of test [] none = tt
none-of test (first ∷ later) none = (or-left (test first) (any_of test later) none, none-of test later (or-right (test first) (any_of test later) none))

names-among : (file : CFile) (later : List CFile) (defined : List (List ℕ)) → ((name : List ℕ) → is_among name (function_names (file.functions ++ all_functions later)) ≡ true → is_among name defined ≡ true) →
    (name : List ℕ) → (is_among name (function_names file.functions) || is_among name (function_names (all_functions later))) ≡ true → is_among name defined ≡ true
names-among file later defined each name among =
    each name (ap (is_among name) (names-append file.functions (all_functions later)) ∙ list_any-append (bytes_eq name) (function_names file.functions) (function_names (all_functions later)) ∙ among)

files-fit : (defined : List (List ℕ)) (outside : List External) (files : List CFile) → ((name : List ℕ) → is_among name (function_names (all_functions files)) ≡ true → is_among name defined ≡ true) →
    Each (λ file. Each (HasObject outside) file.objects) files → AreWellFormed files → Each (λ function. misses (routines defined) function ≡ false) (all_functions files) →
    Each (IsFit (routines defined) (external_number outside)) files
files-fit defined outside [] each objects formed none = tt
files-fit defined outside (file ∷ later) each objects (one_file one more) none =
    let behind = names-among file later defined each in (
      record {
        formed = one;
        functions_found =
            each-map (function_names file.functions) (λ name among. defined-found defined name among)
            (all-among (function_names file.functions) defined (λ name among. behind name (or-of-left (is_among name (function_names file.functions)) (is_among name (function_names (all_functions later))) among)));
        objects_found = each-map file.objects (λ object among. found-is (λ one. bytes_eq (external object).name one.name) outside among) objects.0;
        none_missing = each-left _ file.functions (all_functions later) none;
      },
      files-fit defined outside later (λ name among. behind name (or-of-right (is_among name (function_names file.functions)) (is_among name (function_names (all_functions later))) among)) objects.1 more
          (each-right _ file.functions (all_functions later) none),
    )

-- ## The main program

-- the functions of the program have the names and the parameters of those of the files
abbrev Match : CFunction → Function → Type 0
Match function linked = (linked.name ≡ function.name) × (linked.parameters ≡ parameter_types function.params)

abbrev Matching : List CFunction → List Function → Type 0
Matching [] [] = Unit {0}
Matching [] (linked ∷ later) = ⊥
Matching (function ∷ functions) [] = ⊥
Matching (function ∷ functions) (linked ∷ later) = Match function linked × Matching functions later

functions-match : (numbers : Routines) (own base : ℕ) (outer : Scope) (functions : List CFunction) → Matching functions (linked_functions numbers own outer base functions).functions
functions-match numbers own base outer [] = tt
functions-match numbers own base outer (function ∷ later) = ((refl, refl), functions-match numbers own (base + length (linked_function numbers own outer base function).objects) outer later)

matching-append : (xs : List CFunction) (ls : List Function) (ys : List CFunction) (ms : List Function) → Matching xs ls → Matching ys ms → Matching (xs ++ ys) (ls ++ ms)
matching-append [] [] ys ms one two = two
matching-append [] (l ∷ ls) ys ms one two = absurd one
matching-append (x ∷ xs) [] ys ms one two = absurd one
matching-append (x ∷ xs) (l ∷ ls) ys ms one two = (one.0, matching-append xs ls ys ms one.1 two)

files-match : (numbers : Routines) (places : List ℕ → Option ℕ) (own base : ℕ) (files : List CFile) → Matching (all_functions files) (linked_files numbers places own base files).functions
files-match numbers places own base [] = tt
files-match numbers places own base (file ∷ later) =
    matching-append file.functions (linked_file numbers places own base file).functions (all_functions later)
    (linked_files numbers places own (base + length (linked_file numbers places own base file).objects) later).functions
    (functions-match numbers own _ _ file.functions)
    (files-match numbers places own (base + length (linked_file numbers places own base file).objects) later)

abbrev is_main : Function → Bool
is_main function = bytes_eq main_name function.name

main-there : (functions : List CFunction) (linked : List Function) → Matching functions linked → any_of (named main_name) functions ≡ true → list_any is_main linked ≡ true
main-there [] linked match any = both-ways false any refl
main-there (function ∷ functions) [] match any = absurd match
main-there (function ∷ functions) (first ∷ later) match any = by (bytes_eq main_name function.name) refl any (main-there functions later match.1)
  where
    by : (b : Bool) → bytes_eq main_name function.name ≡ b → (b || any_of (named main_name) functions) ≡ true → (any_of (named main_name) functions ≡ true → list_any is_main later ≡ true) → (bytes_eq main_name first.name || list_any is_main later) ≡ true
    by true is any behind = or-of-left (bytes_eq main_name first.name) (list_any is_main later) (ap (bytes_eq main_name) match.0.0 ∙ is)
    by false is any behind = or-of-right (bytes_eq main_name first.name) (list_any is_main later) (behind any)

no-parameter : (params : List CParam) → nat_lt 0 (length params) ≡ false → all_fit (parameter_types params) [] ≡ true
no-parameter [] none = refl
no-parameter (first ∷ later) none = both-ways (nat_lt 0 (length (first ∷ later))) (lt-ltb 0 (length (first ∷ later)) (omega arith)) none

and-false : (a b : Bool) → a ≡ true → (a && b) ≡ false → b ≡ false
and-false true b is none = none
and-false false b is none = both-ways false is refl

mains-fit : (functions : List CFunction) (linked : List Function) → Matching functions linked → any_of (λ function. named main_name function && has_parameters function) functions ≡ false →
    Each (λ function. is_main function ≡ true → all_fit function.parameters [] ≡ true) linked
mains-fit [] [] match none = tt
mains-fit [] (first ∷ later) match none = absurd match
mains-fit (function ∷ functions) [] match none = tt
mains-fit (function ∷ functions) (first ∷ later) match none = (
  (λ is.
      subst (λ types. all_fit types [] ≡ true) (sym match.0.1)
      (no-parameter function.params
      (and-false (named main_name function) (has_parameters function) (sym (ap (bytes_eq main_name) match.0.0) ∙ is) (or-left (named main_name function && has_parameters function) (any_of (λ function. named main_name function && has_parameters function) functions) none)))),
  mains-fit functions later match.1 (or-right (named main_name function && has_parameters function) (any_of (λ function. named main_name function && has_parameters function) functions) none),
)

first-fit : (list : List Function) → list_any is_main list ≡ true → Each (λ function. is_main function ≡ true → all_fit function.parameters [] ≡ true) list →
    all_fit (text_of list (position_or_len is_main list)).parameters [] ≡ true
first-fit [] any each = both-ways false any refl
first-fit (first ∷ later) any each = by (is_main first) refl any (λ any'. first-fit later any' each.1)
  where
    by : (b : Bool) → is_main first ≡ b → (b || list_any is_main later) ≡ true → (list_any is_main later ≡ true → all_fit (text_of later (position_or_len is_main later)).parameters [] ≡ true) → all_fit (text_of (first ∷ later) (cond (not b) (1 + position_or_len is_main later) 0)).parameters [] ≡ true
    by true is any behind = each.0 is
    by false is any behind =
        let same : 1 + position_or_len is_main later ≡ suc (position_or_len is_main later) = omega arith in
        subst (λ n. all_fit (text_of (first ∷ later) n).parameters [] ≡ true) (sym same) (behind any)

-- ## Rules

-- what holds where the rules are kept but, at most, the fourth
record Kept (files : List CFile) : Type 0 where
  pub main : lacks_main (all_functions files) ≡ false
  pub none_missing : any_of (misses (routines (function_names (all_functions files)))) (all_functions files) ≡ false

abbrev Least : Option ℕ → Type 0
Least rule = (rule ≡ None) ⊎ (rule ≡ Some 4)

not-four : {P : Type 0} (n : ℕ) → n < 4 → Least (Some n) → P
not-four n less (inl is) = absurd (cc)
not-four n less (inr is) = let e : n ≡ 4 = cc in absurd (omega (arith, e, less))

rules-kept : (a b c d : Bool) → Least (broken_rule a b c d) → ((a ≡ false) × (c ≡ false))
rules-kept true b c d least = not-four 1 (omega arith) least
rules-kept false true c d least = not-four 2 (omega arith) least
rules-kept false false true d least = not-four 3 (omega arith) least
rules-kept false false false d least = (refl, refl)

least-rule : {files : List CFile} → AreLinked files → Least (first_broken_rule files)
least-rule (each_kept is) = inl is
least-rule (too_many_bytes is) = inr is

kept : (files : List CFile) → Least (first_broken_rule files) → Kept files
unfolding first_broken_rule
kept files least = let it = rules-kept _ _ _ _ least in record { main = it.0; none_missing = it.1 }

-- ## The program

program-stands : (files : List CFile) → AreWellFormed files → AreLinked files → Each StandsWhole (program files).functions
unfolding program
program-stands files formed linked =
    let rules : Kept files = kept files (least-rule linked) in
    let defined = function_names (all_functions files) in
    files-stand (routines defined) (external_number (externals files)) (length defined) (length (externals files)) files
    (files-fit defined (externals files) files (λ name among. among) (files-added [] files) formed (none-of (misses (routines defined)) (all_functions files) rules.none_missing))

program-matches : (files : List CFile) → Matching (all_functions files) (program files).functions
unfolding program
program-matches files =
    let defined = function_names (all_functions files) in
    files-match (routines defined) (external_number (externals files)) (length defined) (length (externals files)) files

not-false : (a : Bool) → not a ≡ false → a ≡ true
not-false true is = refl
not-false false is = both-ways true refl is

main-begins : (functions : List CFunction) (it : Program) → Matching functions it.functions → lacks_main functions ≡ false → MainBegins it
main-begins functions it match main =
    let any : list_any is_main it.functions ≡ true = main-there functions it.functions match (not-false (any_of (named main_name) functions) (or-left (not (any_of (named main_name) functions)) (any_of (λ function. named main_name function && has_parameters function) functions) main)) in
    let found : FoundAt is_main it.functions = found-at is_main it.functions any in
    let same : main_number it ≡ found.number = ap (λ place. unwrap_or place 0) found.is in
    record {
      found = subst (λ n. n < length it.functions) (sym same) found.within;
      takes_nothing =
          subst (λ n. all_fit (text_of it.functions n).parameters [] ≡ true) (sym (same ∙ found.first))
          (first-fit it.functions any (mains-fit functions it.functions match (or-right (not (any_of (named main_name) functions)) (any_of (λ function. named main_name function && has_parameters function) functions) main)));
    }

pub each-main-begins : EachMainBegins
each-main-begins files linked = main-begins (all_functions files) (program files) (program-matches files) (kept files (least-rule linked)).main

pub each-function-stands : EachFunctionStands
each-function-stands files formed linked = program-stands files formed linked

-- NO RUN IS WITHOUT MEANING
pub runs-meant : NoRunIsWithoutMeaning
unfolding meaning
runs-meant files units count formed linked is =
    sound-meant (program files).functions _ (runs-sound (program files) units count (each-function-stands files formed linked) (each-main-begins files linked)) is
