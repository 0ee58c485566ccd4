-- What functions mention of the functions that they declare, and that it is there: functions of the library, and those that the files define.
-- C89, 3.1.2.2 and 3.7.
use Rattle.std.specs.Prelude.{◌≡◌, ℕ, zero, suc, Bool, true, false, ◌||◌, if◌then◌else◌, cond, List, [], ◌∷◌, ◌++◌, map, filter, position, Option, Some, None, option_map, is_none, bytes_eq}
use Rattle.std.proofs.Common.{refl, sym, ap, ◌∙◌, subst}
use Rattle.std.proofs.lemmas.Slice.Eq.{bytes_eq-Decides}
use Rattle.main_translation_laws.specs.f_tree.Setting.{IsIn, first_in, later_in}
use Rattle.main_translation_laws.specs.l_core.Steps.{Step}
use Rattle.main_translation_laws.specs.c_tree.declared.types.NumberType.{NumberType}
use Rattle.main_translation_laws.specs.c_tree.declared.declaration.CLocal.{CLocal}
use Rattle.main_translation_laws.specs.c_tree.Builtins.{builtin_names}
use Rattle.main_translation_laws.specs.c_tree.Declarations.{declared_externs, functions_in_lists}
use Rattle.main_translation_laws.specs.c_tree.Linking.{Routines, any_of, routines, broken_rule}
use Rattle.main_translation_laws.specs.faithful.Faithful.{is_linked}
use Rattle.main_translation_laws.proofs.linking_laws.Places.{same_bytes, position_step}
use Rattle.main_translation_laws.specs.main_file.MainFile.{Variable, Listing, Called, variable_by, variable_for, lists_from, temporaries_from, call_for}
use Rattle.main_translation_laws.specs.main_translation.Contents.{calls_of, function_called}
use Rattle.main_translation_laws.proofs.Lists.{IsPart, no_part, left_out, taken_too, part_map}
use Rattle.main_translation_laws.proofs.Contents.{all_calls, calls_part}

abbrev pub is_missing : Routines → List ℕ → Bool
is_missing numbers name = is_none (numbers name)

abbrev pub names_called : List Called → List (List ℕ)
names_called calls = map (λ (call : Called). call.name) calls

-- ## Parts of which none passes a test

pub none_of_two : (a b : Bool) → (a || b) ≡ false → (a ≡ false) × (b ≡ false)
none_of_two true b none = absurd (cc)
none_of_two false b none = (refl, none)

pub none_of_both : {A : Type 0} (test : A → Bool) (xs ys : List A) → any_of test xs ≡ false → any_of test ys ≡ false → any_of test (xs ++ ys) ≡ false
none_of_both test [] ys one other = other
none_of_both test (x ∷ xs) ys one other =
    let both = none_of_two (test x) (any_of test xs) one in ap (λ t. t || any_of test (xs ++ ys)) both.0 ∙ none_of_both test xs ys both.1 other

pub none_by_each : {A : Type 0} (test : A → Bool) (xs : List A) → ((x : A) → IsIn x xs → test x ≡ false) → any_of test xs ≡ false
none_by_each test [] each = refl
none_by_each test (x ∷ xs) each = ap (λ t. t || any_of test xs) (each x first_in) ∙ none_by_each test xs (λ y among. each y (later_in among))

none_of_part : (test : List ℕ → Bool) (some all : List (List ℕ)) → IsPart some all → any_of test all ≡ false → any_of test some ≡ false
none_of_part test _ _ no_part none = none
none_of_part test some _ (left_out y part) none = none_of_part test some _ part (none_of_two (test y) _ none).1
none_of_part test (_ ∷ some) (_ ∷ all) (taken_too y part) none =
    let both = none_of_two (test y) (any_of test all) none in ap (λ t. t || any_of test some) both.0 ∙ none_of_part test some all part both.1

none_by_other : (test other : List ℕ → Bool) → ((x : List ℕ) → test x ≡ false → other x ≡ false) → (xs : List (List ℕ)) → any_of test xs ≡ false → any_of other xs ≡ false
none_by_other test other each [] none = refl
none_by_other test other each (x ∷ xs) none =
    let both = none_of_two (test x) (any_of test xs) none in ap (λ t. t || any_of other xs) (each x both.0) ∙ none_by_other test other each xs both.1

-- ## What is called is there

found_first : (t : Bool) (later : Option ℕ) → is_none later ≡ false → is_none (if t then Some 0 else option_map suc later) ≡ false
found_first true later is = refl
found_first false (Some k) is = refl
found_first false None is = absurd (cc)

pub found_behind : (name : List ℕ) (xs ys : List (List ℕ)) → is_none (position (bytes_eq name) ys) ≡ false → is_none (position (bytes_eq name) (xs ++ ys)) ≡ false
found_behind name [] ys is = is
found_behind name (x ∷ xs) ys is =
    ap is_none (position_step (bytes_eq name) x (xs ++ ys)) ∙ found_first (bytes_eq name x) (position (bytes_eq name) (xs ++ ys)) (found_behind name xs ys is)

pub found_among : (name : List ℕ) (xs ys : List (List ℕ)) → IsIn name xs → is_none (position (bytes_eq name) (xs ++ ys)) ≡ false
found_among name _ ys (first_in {as' = xs}) =
    ap is_none (position_step (bytes_eq name) name (xs ++ ys)) ∙ ap (λ t. is_none (if t then Some 0 else option_map suc (position (bytes_eq name) (xs ++ ys)))) (same_bytes name name refl)
found_among name _ ys (later_in {b = x} {as' = xs} among) =
    ap is_none (position_step (bytes_eq name) x (xs ++ ys)) ∙ found_first (bytes_eq name x) (position (bytes_eq name) (xs ++ ys)) (found_among name xs ys among)

all_there : any_of (λ name. is_none (position (bytes_eq name) builtin_names)) (names_called all_calls) ≡ false
unfolding function_called
all_there = refl

-- each function of the library that steps call has a number
pub calls_there : (defined : List (List ℕ)) (steps : List Step) → any_of (is_missing (routines defined)) (names_called (calls_of steps)) ≡ false
calls_there defined steps =
    none_of_part (is_missing (routines defined)) (names_called (calls_of steps)) (names_called all_calls) (part_map (λ (call : Called). call.name) (calls_of steps) all_calls (calls_part steps))
    (none_by_other (λ name. is_none (position (bytes_eq name) builtin_names)) (is_missing (routines defined)) (λ name is. found_behind name defined builtin_names is) (names_called all_calls) all_there)

-- ## What is mentioned is called

-- a name that is one of some names that are there is there
one_there : (test : List ℕ → Bool) (t missing : Bool) (x name : List ℕ) (later : Bool) → bytes_eq name x ≡ t → test x ≡ missing → (t || later) ≡ true → (later ≡ true → test name ≡ false) → missing ≡ false → test name ≡ false
one_there test true missing x name later same is one rest there = subst (λ (y : List ℕ). test y ≡ false) (sym ((bytes_eq-Decides name x).0 same)) (is ∙ there)
one_there test false missing x name later same is one rest there = rest one

among_there : (test : List ℕ → Bool) (names : List (List ℕ)) → any_of test names ≡ false → (name : List ℕ) → any_of (bytes_eq name) names ≡ true → test name ≡ false
among_there test [] there name among = absurd (cc)
among_there test (x ∷ names) there name among =
    let both = none_of_two (test x) (any_of test names) there in
    one_there test (bytes_eq name x) (test x) x name (any_of (bytes_eq name) names) refl refl among (among_there test names both.1 name) both.0

-- what passes a test is there
kept_if : (test : List ℕ → Bool) (t : Bool) (x : List ℕ) (kept : List (List ℕ)) → (t ≡ true → test x ≡ false) → any_of test kept ≡ false → any_of test (cond t (x ∷ kept) kept) ≡ false
kept_if test true x kept first later = ap (λ t. t || any_of test kept) (first refl) ∙ later
kept_if test false x kept first later = later

kept_there : (test keeps : List ℕ → Bool) → ((name : List ℕ) → keeps name ≡ true → test name ≡ false) → (names : List (List ℕ)) → any_of test (filter keeps names) ≡ false
kept_there test keeps each [] = refl
kept_there test keeps each (x ∷ names) = kept_if test (keeps x) x (filter keeps names) (each x) (kept_there test keeps each names)

-- what is mentioned, by what is declared, what the statements name and what lists name
abbrev mentioned_by : List (List ℕ) → List (List ℕ) → List (List ℕ) → List (List ℕ)
mentioned_by externs used listed = filter (λ name. any_of (bytes_eq name) externs) used ++ listed

pub none_mentioned : (test : List ℕ → Bool) (called externs used listed : List (List ℕ)) → externs ≡ called → listed ≡ [] → any_of test called ≡ false → any_of test (mentioned_by externs used listed) ≡ false
none_mentioned test called externs used listed are none there =
    none_of_both test (filter (λ name. any_of (bytes_eq name) externs) used) listed
    (kept_there test (λ name. any_of (bytes_eq name) externs) (among_there test externs (ap (any_of test) are ∙ there)) used)
    (ap (any_of test) none)

-- ## What is declared

past_lists : (known : List (List ℕ)) (k : ℕ) (ls : List Listing) → functions_in_lists known (lists_from k ls) ≡ []
past_lists known k [] = refl
past_lists known k (l ∷ ls) = past_lists known (suc k) ls

past_variable : (known : List (List ℕ)) (type : NumberType) (name : List ℕ) (count : Option ℕ) (later : List CLocal) → functions_in_lists known (variable_by type name count ∷ later) ≡ functions_in_lists known later
past_variable known type name None later = refl
past_variable known type name (Some count) later = refl

past_variables : (known : List (List ℕ)) (vs : List Variable) (later : List CLocal) → functions_in_lists known (map variable_for vs ++ later) ≡ functions_in_lists known later
past_variables known [] later = refl
past_variables known (one ∷ vs) later = past_variable known one.type _ one.count (map variable_for vs ++ later) ∙ past_variables known vs later

pub past_calls : (known : List (List ℕ)) (calls : List Called) (vs : List Variable) (ls : List Listing) → functions_in_lists known (map call_for calls ++ (map variable_for vs ++ lists_from 1 ls)) ≡ []
past_calls known [] vs ls = past_variables known vs (lists_from 1 ls) ∙ past_lists known 1 ls
past_calls known (call ∷ calls) vs ls = past_calls (call.name ∷ known) calls vs ls

pub past_temporaries : (known : List (List ℕ)) (k n : ℕ) (later : List CLocal) → functions_in_lists known (temporaries_from k n ++ later) ≡ functions_in_lists known later
past_temporaries known k zero later = refl
past_temporaries known k (suc n) later = past_temporaries known (suc k) n later

extern_lists : (k : ℕ) (ls : List Listing) → declared_externs (lists_from k ls) ≡ []
extern_lists k [] = refl
extern_lists k (l ∷ ls) = extern_lists (suc k) ls

extern_variable : (type : NumberType) (name : List ℕ) (count : Option ℕ) (later : List CLocal) → declared_externs (variable_by type name count ∷ later) ≡ declared_externs later
extern_variable type name None later = refl
extern_variable type name (Some count) later = refl

extern_variables : (vs : List Variable) (later : List CLocal) → declared_externs (map variable_for vs ++ later) ≡ declared_externs later
extern_variables [] later = refl
extern_variables (one ∷ vs) later = extern_variable one.type _ one.count (map variable_for vs ++ later) ∙ extern_variables vs later

pub extern_calls : (calls : List Called) (vs : List Variable) (ls : List Listing) → declared_externs (map call_for calls ++ (map variable_for vs ++ lists_from 1 ls)) ≡ names_called calls
extern_calls [] vs ls = extern_variables vs (lists_from 1 ls) ∙ extern_lists 1 ls
extern_calls (call ∷ calls) vs ls = ap (λ names. call.name ∷ names) (extern_calls calls vs ls)

pub extern_temporaries : (k n : ℕ) (later : List CLocal) → declared_externs (temporaries_from k n ++ later) ≡ declared_externs later
extern_temporaries k zero later = refl
extern_temporaries k (suc n) later = extern_temporaries (suc k) n later

-- ## The rules

pub fourth_only : (fourth : Bool) → is_linked (broken_rule false false false fourth) ≡ true
unfolding is_linked
fourth_only true = refl
fourth_only false = refl
