-- The C files of units of numbers that call each other link, where one unit is a main program: no function is defined twice or under a name of the
-- library, and each function that one declares and calls is one of the files or of the library. C89, 3.1.2.2 and 3.7; CSTR 149.
use Rattle.std.specs.List.{flat_map}
use Rattle.std.specs.Prelude.{◌≡◌, ℕ, suc, Bool, true, false, not, ◌&&◌, ◌||◌, nat_lt, List, [], ◌∷◌, ◌++◌, map, length, Option, Some, None, option_and_then, slice_get, bytes_eq, if◌then◌else◌}
use Rattle.std.proofs.Common.{refl, sym, ap, ◌∙◌, subst, arith}
use Rattle.std.proofs.lemmas.List.{map-append}
use Rattle.std.proofs.lemmas.Slice.Eq.{bytes_eq-Decides}
use Rattle.main_faithfulness.specs.f_tree.Values.{Bytes}
use Rattle.main_faithfulness.specs.f_tree.Facts.{MainProgram, SubroutineUnit, FunctionUnit, BlockDataUnit, UnitKind, Formal, EntryPoint}
use Rattle.main_faithfulness.specs.f_tree.Setting.{IsIn, first_in, later_in}
use Rattle.main_faithfulness.specs.f_tree.World.{Procedure}
use Rattle.main_faithfulness.specs.f_tree.CNames.{DummyUse, main_name}
use Rattle.main_faithfulness.specs.f_tree.Meaning.{is_main, mains}
use Rattle.main_faithfulness.specs.c_tree.declared.types.NumberType.{NumberType}
use Rattle.main_faithfulness.specs.c_tree.declared.declaration.CLocal.{CLocal}
use Rattle.main_faithfulness.specs.c_tree.declared.file.CFunction.{CFunction}
use Rattle.main_faithfulness.specs.c_tree.Builtins.{builtin_names}
use Rattle.main_faithfulness.specs.c_tree.Declarations.{declared_externs, functions_in_lists}
use Rattle.main_faithfulness.specs.c_tree.FlatForm.{whole_body}
use Rattle.main_faithfulness.specs.c_tree.Linking as linking
use Rattle.main_faithfulness.specs.c_tree.Linking.{any_of, routines, function_names, all_functions, named, has_parameters, lacks_main, repeats, defined_again, misses, all_imaged, first_broken_rule, broken_rule}
use Rattle.main_faithfulness.specs.faithful.Faithful.{is_linked}
use Rattle.main_faithfulness.specs.faithful.StorageImage.{function_name}
use Rattle.main_faithfulness.specs.faithful.Signatures.{named_formals}
use Rattle.main_faithfulness.specs.linking_laws.Linked as names
use Rattle.main_faithfulness.proofs.linking_laws.Places.{some_same, same_bytes, other_bytes, map_at, distinct_later}
use Rattle.main_faithfulness.specs.main_file.MainFile.{Called, call_for, variable_for, lists_from}
use Rattle.main_faithfulness.specs.main_translation.Contents.{calls_of}
use Rattle.main_faithfulness.proofs.main_translation_laws.Lists.{at_in, in_at}
use Rattle.main_faithfulness.proofs.LinkRules.{is_missing, names_called, none_of_both, none_by_each, found_among, calls_there, past_temporaries, past_calls, extern_temporaries, extern_calls, none_mentioned, fourth_only}
use Rattle.unit_translation_laws.specs.unit_file.UnitFile.{Parameter, KeptBound, Callee, Inventory, WrittenUnit, parameter_for, result_local, bound_for, extern_for, unit_locals, unit_function}
use Rattle.unit_translation_laws.specs.unit_file.UnitNames.{called_names, own_names}
use Rattle.unit_translation_laws.specs.unit_sites.UnitSites.{UnitsOfFile, inventories, all_units, files_of}
use Rattle.unit_translation_laws.specs.unit_translation.UnitContents.{LoweredUnit, program_units, whole_text, parameter_for as parameter_type, formals_in, parameters_in, library_callee, unit_callee, procedure_callee, procedures_in, unit_numbers, inventory_of, inventories_of}
use Rattle.unit_translation_laws.specs.unit_translation.UnitBodies.{all_lowered, written_files}
use Rattle.unit_translation_laws.specs.PlainUnits.{IsPlainUnit, ArePlainUnits}
use Rattle.unit_translation_laws.proofs.Functions.{own_apart}
use Rattle.unit_faithfulness.proofs.Written.{inventories_are, written_for}
use Rattle.unit_faithfulness.proofs.Signed.{named_by}

-- ## No function is defined twice, or under a name of the library

none_repeats : (defined : List (List ℕ)) → names.AreDistinct defined → repeats defined ≡ false
none_repeats [] distinct = refl
none_repeats (name ∷ later) distinct =
    ap (λ t. t || repeats later) (none_by_each (bytes_eq name) later (λ other among.
    let found = at_in other later among in
    other_bytes name other (λ same. let place : 0 ≡ suc found.index = distinct 0 (suc found.index) name refl (found.at ∙ ap Some (sym same)) in omega (arith, place))))
    ∙ none_repeats later (distinct_later name later distinct)

-- the names of the functions of units
abbrev pub defined_by : List LoweredUnit → List (List ℕ)
defined_by us = map function_name (program_units us)

names_defined : (us later : List LoweredUnit) → own_names (map (inventory_of us) later) ≡ defined_by later
names_defined us [] = refl
names_defined us (u ∷ later) = ap (λ names. function_name u.unit ∷ names) (names_defined us later)

single_entry : (us : List LoweredUnit) → ArePlainUnits us → (k : ℕ) (u : LoweredUnit) → slice_get us k ≡ Some u → (entry : EntryPoint) × (u.unit.entries ≡ entry ∷ [])
single_entry us plain k u at = let p = plain.units k u at in (record { name = p.name; formals = p.formals; start = 0 }, p.entry)

none_again : (us : List LoweredUnit) (ws : List WrittenUnit) → ArePlainUnits us → inventories ws ≡ inventories_of us → defined_again (defined_by us) ≡ false
none_again us ws plain same =
    let names_are : own_names (inventories ws) ≡ defined_by us = ap own_names same ∙ names_defined us us in
    ap (λ t. t || any_of (λ name. any_of (bytes_eq name) builtin_names) (defined_by us)) (none_repeats (defined_by us) plain.differ)
    ∙ none_by_each (λ name. any_of (bytes_eq name) builtin_names) (defined_by us) (λ name among. none_by_each (bytes_eq name) builtin_names (λ other library.
    let own = at_in name (defined_by us) among in
    let found = at_in other builtin_names library in
    other_bytes name other (λ is. own_apart us ws same (single_entry us plain) plain.differ found.index other found.at own.index (ap (λ names. slice_get names own.index) names_are ∙ own.at ∙ ap Some is))))

-- ## The main program

is_main_kind : (kind : UnitKind) → is_main kind ≡ true → kind ≡ MainProgram
unfolding is_main
is_main_kind MainProgram is = refl
is_main_kind SubroutineUnit is = absurd (cc)
is_main_kind FunctionUnit is = absurd (cc)
is_main_kind BlockDataUnit is = absurd (cc)

-- the main program of a set that has one
record HasMain (us : List LoweredUnit) : Type 0 where
  place : ℕ
  lowered : LoweredUnit
  at : slice_get us place ≡ Some lowered
  is : lowered.unit.kind ≡ MainProgram

main_behind : (first : LoweredUnit) (us : List LoweredUnit) → HasMain us → HasMain (first ∷ us)
main_behind first us has = record { place = suc has.place; lowered = has.lowered; at = has.at; is = has.is }

main_by : (first : LoweredUnit) (us : List LoweredUnit) (t : Bool) (n : ℕ) → is_main first.unit.kind ≡ t → (if t then suc (mains (program_units us)) else mains (program_units us)) ≡ suc n →
    ((m : ℕ) → mains (program_units us) ≡ suc m → HasMain us) → HasMain (first ∷ us)
main_by first us true n is many later = record { place = 0; lowered = first; at = refl; is = is_main_kind first.unit.kind is }
main_by first us false n is many later = main_behind first us (later n many)

has_main : (us : List LoweredUnit) (n : ℕ) → mains (program_units us) ≡ suc n → HasMain us
unfolding mains
has_main [] n many = absurd (cc)
has_main (first ∷ us) n many = main_by first us (is_main first.unit.kind) n refl many (λ m more. has_main us m more)

main_named : (us : List LoweredUnit) → (has : HasMain us) → function_name has.lowered.unit ≡ main_name
main_named us has = named_by has.lowered.unit MainProgram has.is

defined_at : (us : List LoweredUnit) (k : ℕ) (u : LoweredUnit) → slice_get us k ≡ Some u → slice_get (defined_by us) k ≡ Some (function_name u.unit)
defined_at us k u at = map_at function_name (program_units us) k u.unit (map_at (λ (one : LoweredUnit). one.unit) us k u at)

-- what goes by its name is the main program
one_main : (us : List LoweredUnit) → ArePlainUnits us → (has : HasMain us) (k : ℕ) (u : LoweredUnit) → slice_get us k ≡ Some u → function_name u.unit ≡ main_name → u.unit.kind ≡ MainProgram
one_main us plain has k u at same =
    let place : k ≡ has.place = plain.differ k has.place main_name (defined_at us k u at ∙ ap Some same) (defined_at us has.place has.lowered has.at ∙ ap Some (main_named us has)) in
    let own : u ≡ has.lowered = some_same u has.lowered (sym at ∙ ap (slice_get us) place ∙ has.at) in ap (λ (one : LoweredUnit). one.unit.kind) own ∙ has.is

abbrev parameters_by : (Bytes → DummyUse) → List Formal → List Parameter
parameters_by use_of formals = map (λ x. record { name = x; type = parameter_type (use_of x) }) (named_formals formals)

-- it has no parameters
main_parameters : (us : List LoweredUnit) (j : ℕ) (u : LoweredUnit) → IsPlainUnit us j u → u.unit.kind ≡ MainProgram → parameters_in u ≡ []
unfolding parameters_in formals_in named_formals
main_parameters us j u plain is = ap (λ (entries : List EntryPoint). parameters_by u.use_of (formals_in entries)) plain.entry ∙ ap (parameters_by u.use_of) (plain.main is)

-- ## What functions declare

-- a function of a file as one of the library is declared
abbrev as_called : Callee → Called
as_called call = record { result = call.result; name = call.name; arguments = call.arguments }

externs_as : (calls : List Callee) → map extern_for calls ≡ map call_for (map as_called calls)
externs_as [] = refl
externs_as (call ∷ calls) = ap (λ later. extern_for call ∷ later) (externs_as calls)

names_as : (calls : List Callee) → names_called (map as_called calls) ≡ map (λ (call : Callee). call.name) calls
names_as [] = refl
names_as (call ∷ calls) = ap (λ later. call.name ∷ later) (names_as calls)

past_result : (known : List (List ℕ)) (returned : Option NumberType) (later : List CLocal) → functions_in_lists known (result_local returned ++ later) ≡ functions_in_lists known later
past_result known None later = refl
past_result known (Some type) later = refl

extern_result : (returned : Option NumberType) (later : List CLocal) → declared_externs (result_local returned ++ later) ≡ declared_externs later
extern_result None later = refl
extern_result (Some type) later = refl

past_bounds : (known : List (List ℕ)) (bounds : List KeptBound) (later : List CLocal) → functions_in_lists known (map bound_for bounds ++ later) ≡ functions_in_lists known later
past_bounds known [] later = refl
past_bounds known (one ∷ bounds) later = past_bounds known bounds later

extern_bounds : (bounds : List KeptBound) (later : List CLocal) → declared_externs (map bound_for bounds ++ later) ≡ declared_externs later
extern_bounds [] later = refl
extern_bounds (one ∷ bounds) later = extern_bounds bounds later

no_functions_listed : (v : Inventory) → functions_in_lists [] (unit_locals v) ≡ []
no_functions_listed v =
    past_result [] v.returned _ ∙ past_temporaries [] 1 v.temporaries _ ∙ past_bounds [] v.bounds _ ∙ ap (λ calls. functions_in_lists [] (calls ++ (map variable_for v.variables ++ lists_from 1 v.lists))) (externs_as v.calls) ∙ past_calls [] (map as_called v.calls) v.variables v.lists

externs_are : (v : Inventory) → declared_externs (unit_locals v) ≡ called_names v
externs_are v =
    extern_result v.returned _ ∙ extern_temporaries 1 v.temporaries _ ∙ extern_bounds v.bounds _ ∙ ap (λ calls. declared_externs (calls ++ (map variable_for v.variables ++ lists_from 1 v.lists))) (externs_as v.calls) ∙ extern_calls (map as_called v.calls) v.variables v.lists ∙ names_as v.calls

-- ## What is called is there

module _ (us : List LoweredUnit) where
  abbrev is_lost : List ℕ → Bool
  is_lost name = is_missing (routines (defined_by us)) name

  abbrev names_in : List Callee → List (List ℕ)
  names_in calls = map (λ (call : Callee). call.name) calls

  library_names : (calls : List Called) → names_in (map library_callee calls) ≡ names_called calls
  library_names [] = refl
  library_names (call ∷ calls) = ap (λ later. call.name ∷ later) (library_names calls)

  callee_there : (found : Option LoweredUnit) → ((u : LoweredUnit) → found ≡ Some u → IsIn (function_name u.unit) (defined_by us)) → any_of is_lost (names_in (unit_callee found)) ≡ false
  unfolding unit_callee
  callee_there None among = refl
  callee_there (Some u) among = ap (λ t. t || false) (found_among (function_name u.unit) (defined_by us) builtin_names (among u refl))

  found_there : (number : Option ℕ) (u : LoweredUnit) → option_and_then (slice_get us) number ≡ Some u → IsIn (function_name u.unit) (defined_by us)
  found_there None u found = absurd (cc)
  found_there (Some k) u found = in_at (defined_by us) k (function_name u.unit) (defined_at us k u found)

  procedures_there : (xs : List Bytes) → any_of is_lost (names_in (flat_map (procedure_callee us) xs)) ≡ false
  unfolding procedure_callee
  procedures_there [] = refl
  procedures_there (x ∷ xs) =
      let number = unit_numbers us (Procedure x) in
      ap (any_of is_lost) (map-append (λ (call : Callee). call.name) (procedure_callee us x) (flat_map (procedure_callee us) xs))
      ∙ none_of_both is_lost (names_in (procedure_callee us x)) (names_in (flat_map (procedure_callee us) xs)) (callee_there (option_and_then (slice_get us) number) (λ u found. found_there number u found)) (procedures_there xs)

  all_there : (u : LoweredUnit) → any_of is_lost (called_names (inventory_of us u)) ≡ false
  all_there u =
      let library = map library_callee (calls_of (whole_text u).steps) in
      let procedures = flat_map (procedure_callee us) (procedures_in (whole_text u)) in
      ap (any_of is_lost) (map-append (λ (call : Callee). call.name) library procedures)
      ∙ none_of_both is_lost (names_in library) (names_in procedures) (ap (any_of is_lost) (library_names (calls_of (whole_text u).steps)) ∙ calls_there (defined_by us) (whole_text u).steps) (procedures_there (procedures_in (whole_text u)))

  nothing_misses : (w : WrittenUnit) (u : LoweredUnit) → inventory_of us u ≡ w.inventory → misses (routines (defined_by us)) (unit_function w) ≡ false
  nothing_misses w u is =
      none_mentioned is_lost (called_names w.inventory) (declared_externs (unit_locals w.inventory)) (whole_body w.body).items.names (functions_in_lists [] (unit_locals w.inventory)) (externs_are w.inventory)
      (no_functions_listed w.inventory) (ap (λ (v : Inventory). any_of is_lost (called_names v)) (sym is) ∙ all_there u)

-- ## The rules

functions_of : (fs : List UnitsOfFile) → all_functions (files_of fs) ≡ map unit_function (all_units fs)
functions_of [] = refl
functions_of (f ∷ fs) = ap (λ later. map unit_function f.units ++ later) (functions_of fs) ∙ sym (map-append unit_function f.units (all_units fs))

names_written : (ws : List WrittenUnit) → function_names (map unit_function ws) ≡ own_names (inventories ws)
names_written [] = refl
names_written (w ∷ ws) = ap (λ later. w.inventory.name ∷ later) (names_written ws)

none_of_functions : (test : CFunction → Bool) (ws : List WrittenUnit) → ((k : ℕ) (w : WrittenUnit) → slice_get ws k ≡ Some w → test (unit_function w) ≡ false) → any_of test (map unit_function ws) ≡ false
none_of_functions test [] each = refl
none_of_functions test (w ∷ ws) each = ap (λ t. t || any_of test (map unit_function ws)) (each 0 w refl) ∙ none_of_functions test ws (λ k. each (suc k))

or_true : (t : Bool) {later : Bool} → later ≡ true → (t || later) ≡ true
or_true true is = refl
or_true false is = is

one_of_names : (name : List ℕ) (functions : List CFunction) → IsIn name (function_names functions) → any_of (named name) functions ≡ true
one_of_names name [] among = elim among [ ]
one_of_names name (function ∷ later) first_in = ap (λ t. t || any_of (named name) later) (same_bytes function.name function.name refl)
one_of_names name (function ∷ later) (later_in among) = or_true (named name function) (one_of_names name later among)

module _ (lfs : List (List LoweredUnit)) (fs : List UnitsOfFile) (plain : ArePlainUnits (all_lowered lfs)) (written : written_files lfs ≡ Some fs) where
  abbrev us : List LoweredUnit
  us = all_lowered lfs

  abbrev ws : List WrittenUnit
  ws = all_units fs

  abbrev its_functions : List CFunction
  its_functions = map unit_function ws

  defined_are : function_names its_functions ≡ defined_by us
  defined_are = names_written ws ∙ ap own_names (inventories_are lfs fs written) ∙ names_defined us us

  has_no_parameters : (w : WrittenUnit) (u : LoweredUnit) → inventory_of us u ≡ w.inventory → parameters_in u ≡ [] → has_parameters (unit_function w) ≡ false
  has_no_parameters w u is none = ap (λ (v : Inventory). nat_lt 0 (length (map parameter_for v.parameters))) (sym is) ∙ ap (λ (ps : List Parameter). nat_lt 0 (length (map parameter_for ps))) none

  main_plain : (has : HasMain us) (k : ℕ) (w : WrittenUnit) → slice_get ws k ≡ Some w → (t : Bool) → named main_name (unit_function w) ≡ t → (t && has_parameters (unit_function w)) ≡ false
  main_plain has k w at false is = refl
  main_plain has k w at true is =
      let own = written_for lfs fs written k w at in
      let named_so : function_name own.one.unit ≡ main_name = ap (λ (v : Inventory). v.name) own.is ∙ sym ((bytes_eq-Decides main_name w.inventory.name).0 is) in
      has_no_parameters w own.one own.is (main_parameters us k own.one (plain.units k own.one own.one_is) (one_main us plain has k own.one own.one_is named_so))

  main_there : HasMain us → lacks_main its_functions ≡ false
  unfolding main_name
  main_there has =
      let among : IsIn main_name (function_names its_functions) =
      subst (IsIn main_name) (sym defined_are) (in_at (defined_by us) has.place main_name (defined_at us has.place has.lowered has.at ∙ ap Some (main_named us has))) in
      ap (λ t. not t || any_of (λ function. named main_name function && has_parameters function) its_functions) (one_of_names main_name its_functions among)
      ∙ none_of_functions (λ function. named main_name function && has_parameters function) ws (λ k w at. main_plain has k w at (named main_name (unit_function w)) refl)

  none_missing : any_of (misses (routines (defined_by us))) its_functions ≡ false
  none_missing = none_of_functions (misses (routines (defined_by us))) ws (λ k w at. let own = written_for lfs fs written k w at in nothing_misses us w own.one own.is)

  abbrev rule_for : List CFunction → List (List ℕ) → Bool → Option ℕ
  rule_for functions defined fourth = broken_rule (lacks_main functions) (defined_again defined || false) (any_of (misses (routines defined)) functions) fourth

  rules_hold : HasMain us → (fourth : Bool) → is_linked (rule_for its_functions (defined_by us) fourth) ≡ true
  rules_hold has fourth = ap is_linked (λ i. broken_rule (main_there has i) (none_again us ws plain (inventories_are lfs fs written) i || false) (none_missing i) fourth) ∙ fourth_only fourth

  -- no file has an external object
  none_imaged : (files : List UnitsOfFile) → all_imaged (files_of files) ≡ []
  none_imaged [] = refl
  none_imaged (f ∷ files) = none_imaged files

  abbrev rule_with : List (List ℕ) → Option ℕ
  rule_with imaged =
      let functions = all_functions (files_of fs) in
      let defined = function_names functions in
      broken_rule (lacks_main functions) (defined_again defined || repeats imaged) (any_of (misses (routines defined)) functions) (nat_lt linking.byte_limit (linking.bytes_of_objects (linking.program (files_of fs)).objects))

  rule_of : (fourth : Bool) × (first_broken_rule (files_of fs) ≡ rule_for (all_functions (files_of fs)) (function_names (all_functions (files_of fs))) fourth)
  unfolding first_broken_rule
  rule_of = (nat_lt linking.byte_limit (linking.bytes_of_objects (linking.program (files_of fs)).objects), ap rule_with (none_imaged fs))

  pub units_link : mains (program_units us) ≡ 1 → is_linked (first_broken_rule (files_of fs)) ≡ true
  units_link one =
      let rule = rule_of in
      let are = functions_of fs in
      ap is_linked (rule.1 ∙ (λ i. rule_for (are i) ((ap function_names are ∙ defined_are) i) rule.0)) ∙ rules_hold (has_main us 0 one) rule.0
