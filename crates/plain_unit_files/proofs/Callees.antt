-- What a function calls is declared once: functions of the library, and procedures by the names of their units. C89, 3.5; CSTR 149.
use Rattle.std.specs.List.{list_all, list_any, flat_map}
use Rattle.std.specs.Prelude.{◌≡◌, ◌≢◌, ℕ, zero, suc, Bool, true, false, not, ◌||◌, List, [], ◌∷◌, ◌++◌, map, fold, Option, Some, None, option_and_then, slice_get, bytes_eq, if◌then◌else◌}
use Rattle.std.proofs.Common.{refl, sym, ap, ◌∙◌, subst, arith}
use Rattle.std.proofs.lemmas.List.{map-append}
use Rattle.std.proofs.lemmas.Slice.Eq.{bytes_eq-Decides}
use Rattle.fortran_totality.specs.f_tree.CNames.{external_name, main_name}
use Rattle.fortran_totality.specs.f_tree.Facts.{UnitKind, MainProgram, SubroutineUnit, FunctionUnit, BlockDataUnit, EntryPoint, ProgramUnit}
use Rattle.fortran_totality.specs.f_tree.Meaning.{has_entry, answers_to}
use Rattle.fortran_totality.specs.f_tree.Setting.{IsIn, first_in, later_in}
use Rattle.fortran_totality.specs.f_tree.Values.{Bytes}
use Rattle.fortran_totality.specs.f_tree.World.{Procedure}
use Rattle.plain_files.proofs.fortran_laws.CNameLaws.{external_name-injective}
use Rattle.plain_files.specs.l_core.Steps.{Text}
use Rattle.plain_files.specs.faithful.StorageImage.{name_of_entries, function_name}
use Rattle.plain_files.proofs.linking_laws.Places.{some_same}
use Rattle.plain_files.specs.main_file.MainFile.{Called}
use Rattle.plain_files.specs.main_translation.Contents.{function_called, calls_of}
use Rattle.plain_files.proofs.main_translation_laws.Lists.{AreApart, none_apart, one_apart, InEither, in_one, in_other, in_either, in_part, part_apart, apart_append}
use Rattle.plain_files.proofs.main_translation_laws.Contents.{each_of}
use Rattle.plain_files.proofs.main_file_texts.Files.{is_in, apart_told, all_names, all_apart_there, names_part}
use Rattle.plain_units.specs.unit_file.UnitFile.{Callee}
use Rattle.plain_units.specs.unit_file.UnitNames.{called_names}
use Rattle.plain_units.proofs.unit_programs.Objects.{found_back}
use Rattle.plain_units.specs.unit_translation.UnitContents.{LoweredUnit, whole_text, program_units, unit_numbers, library_callee, procedures_by, with_name, procedures_in, unit_callee, procedure_callee, inventory_of}
use Rattle.plain_unit_files.proofs.Words.{closes, is_underscored, external_closes}

-- ## Names, each once

only_one : {A : Type 0} (x y : A) → IsIn y (x ∷ []) → y ≡ x
only_one x _ first_in = refl
only_one x y (later_in o) = elim o [ ]

apart_with : (seen : List Bytes) (x : Bytes) → AreApart seen → AreApart (with_name seen x)
unfolding with_name
apart_with seen x apart = by (list_any (bytes_eq x) seen) refl
  where
    by : (t : Bool) → list_any (bytes_eq x) seen ≡ t → AreApart (if t then seen else seen ++ x ∷ [])
    by true there = apart
    by false other =
        apart_append seen (x ∷ []) apart (one_apart (λ y o. elim o [ ]) none_apart)
        (λ y z o p same. let here = subst (λ w. IsIn w seen) (same ∙ only_one x z p) o in let no : true ≡ false = sym (is_in x seen here) ∙ other in absurd (cc))

apart_seen : (more seen : List Bytes) → AreApart seen → AreApart (fold with_name seen more)
apart_seen [] seen apart = apart
apart_seen (x ∷ more) seen apart = apart_seen more (with_name seen x) (apart_with seen x apart)

procedures_apart : (u : Text) → AreApart (procedures_in u)
unfolding procedures_in
procedures_apart u = apart_seen (flat_map (procedures_by u.facts) u.steps) [] none_apart

-- ## Procedures by their units

procedure_named : (unit : ProgramUnit) (entry : EntryPoint) (x : Bytes) → unit.entries ≡ entry ∷ [] → answers_to (Procedure x) unit ≡ true → function_name unit ≡ external_name x
unfolding answers_to function_name has_entry
procedure_named unit entry x only h = by unit.kind h
  where
    first_so : (t : Bool) → (t || false) ≡ true → t ≡ true
    first_so true k = refl
    first_so false k = absurd (cc)

    same_name : has_entry unit.entries x ≡ true → name_of_entries unit.entries ≡ external_name x
    same_name g =
        let here : (bytes_eq entry.name x || false) ≡ true = ap (λ es. has_entry es x) (sym only) ∙ g in
        ap name_of_entries only ∙ ap external_name ((bytes_eq-Decides entry.name x).0 (first_so (bytes_eq entry.name x) here))

    by : (k : UnitKind) → elim k [ SubroutineUnit ↦ has_entry unit.entries x | FunctionUnit ↦ has_entry unit.entries x | _ ↦ false ] ≡ true → elim k [ MainProgram ↦ main_name | _ ↦ name_of_entries unit.entries ] ≡ external_name x
    by MainProgram g = absurd (cc)
    by SubroutineUnit g = same_name g
    by FunctionUnit g = same_name g
    by BlockDataUnit g = absurd (cc)

unit_at : (us : List LoweredUnit) (k : ℕ) (unit : ProgramUnit) → slice_get (program_units us) k ≡ Some unit → (u : LoweredUnit) × (slice_get us k ≡ Some u) × (u.unit ≡ unit)
unit_at [] k unit at = absurd (cc)
unit_at (u ∷ us) zero unit at = (u, refl, some_same u.unit unit at)
unit_at (u ∷ us) (suc k) unit at = unit_at us k unit at

abbrev pub names_in : List Callee → List (List ℕ)
names_in calls = map (λ (call : Callee). call.name) calls

-- the unit of a procedure, by the name under which it is declared
pub record IsOf (us : List LoweredUnit) (x : Bytes) (name : List ℕ) : Type 0 where
  pub place : ℕ
  pub unit : LoweredUnit
  pub at : slice_get us place ≡ Some unit
  pub own : name ≡ function_name unit.unit
  pub external : name ≡ external_name x

-- each unit has one entry
abbrev pub HaveOneEntry : List LoweredUnit → Type 0
HaveOneEntry us = (k : ℕ) (u : LoweredUnit) → slice_get us k ≡ Some u → (entry : EntryPoint) × (u.unit.entries ≡ entry ∷ [])

module _ (us : List LoweredUnit) (single : HaveOneEntry us) where
  callee_of : (x : Bytes) (name : List ℕ) → IsIn name (names_in (procedure_callee us x)) → IsOf us x name
  unfolding procedure_callee unit_callee
  callee_of x name o = by (unit_numbers us (Procedure x)) refl o
    where
      by : (found : Option ℕ) → unit_numbers us (Procedure x) ≡ found → IsIn name (names_in (unit_callee (option_and_then (slice_get us) found))) → IsOf us x name
      by None is p = elim p [ ]
      by (Some k) is p =
          let f = found_back 0 (program_units us) (Procedure x) k is in
          let there = f.is in
          let place : k ≡ f.place = omega (arith, there) in
          let u = unit_at us f.place f.unit f.at in
          let at : slice_get us k ≡ Some u.0 = ap (slice_get us) place ∙ u.1 in
          let own : name ≡ function_name u.0.unit = only_one (function_name u.0.unit) name (subst (λ found. IsIn name (names_in (unit_callee found))) at p) in
          let entry = single k u.0 at in
          record { place = k; unit = u.0; at = at; own = own; external = own ∙ procedure_named u.0.unit entry.0 x entry.1 (ap (answers_to (Procedure x)) u.2 ∙ f.answers) }

  one_apart_each : (found : Option LoweredUnit) → AreApart (names_in (unit_callee found))
  unfolding unit_callee
  one_apart_each None = none_apart
  one_apart_each (Some u) = one_apart (λ y o. elim o [ ]) none_apart

  abbrev pub all_callees : List Bytes → List Callee
  all_callees xs = flat_map (procedure_callee us) xs

  callees_append : (x : Bytes) (xs : List Bytes) → names_in (all_callees (x ∷ xs)) ≡ names_in (procedure_callee us x) ++ names_in (all_callees xs)
  callees_append x xs = map-append (λ (call : Callee). call.name) (procedure_callee us x) (all_callees xs)

  pub callees_of : (xs : List Bytes) (name : List ℕ) → IsIn name (names_in (all_callees xs)) → (x : Bytes) × IsIn x xs × IsOf us x name
  callees_of [] name o = elim o [ ]
  callees_of (x ∷ xs) name o = by (in_either name (names_in (procedure_callee us x)) (names_in (all_callees xs)) (subst (IsIn name) (callees_append x xs) o)) (λ p. callees_of xs name p)
    where
      by : InEither name (names_in (procedure_callee us x)) (names_in (all_callees xs)) → (IsIn name (names_in (all_callees xs)) → (y : Bytes) × IsIn y xs × IsOf us y name) → (y : Bytes) × IsIn y (x ∷ xs) × IsOf us y name
      by (in_one p) later = (x, first_in, callee_of x name p)
      by (in_other p) later = let found = later p in (found.0, later_in found.1, found.2)

  callees_apart : (xs : List Bytes) → AreApart xs → AreApart (names_in (all_callees xs))
  unfolding procedure_callee
  callees_apart [] none_apart = none_apart
  callees_apart (x ∷ xs) (one_apart none later) =
      subst AreApart (sym (callees_append x xs))
      (apart_append (names_in (procedure_callee us x)) (names_in (all_callees xs)) (one_apart_each (option_and_then (slice_get us) (unit_numbers us (Procedure x)))) (callees_apart xs later)
      (λ y z o p same.
      let one = callee_of x y o in
      let other = callees_of xs z p in none other.0 other.1 (external_name-injective x other.0 (sym one.external ∙ same ∙ other.2.external))))

  -- ## Functions of the library

  library_names : (calls : List Called) → names_in (map library_callee calls) ≡ map (λ (call : Called). call.name) calls
  library_names [] = refl
  library_names (call ∷ calls) = ap (λ later. call.name ∷ later) (library_names calls)

  none_closes : list_all (λ name. not (closes name)) all_names ≡ true
  unfolding closes is_underscored function_called
  none_closes = refl

  module _ (u : LoweredUnit) where
    abbrev library : List Callee
    library = map library_callee (calls_of (whole_text u).steps)

    pub called_are : called_names (inventory_of us u) ≡ map (λ (call : Called). call.name) (calls_of (whole_text u).steps) ++ names_in (all_callees (procedures_in (whole_text u)))
    called_are = map-append (λ (call : Callee). call.name) library (all_callees (procedures_in (whole_text u))) ∙ ap (λ names. names ++ names_in (all_callees (procedures_in (whole_text u)))) (library_names (calls_of (whole_text u).steps))

    no_library : (x y : List ℕ) → IsIn x (map (λ (call : Called). call.name) (calls_of (whole_text u).steps)) → IsIn y (names_in (all_callees (procedures_in (whole_text u)))) → x ≢ y
    no_library x y o p same =
        let one : not (closes x) ≡ true = each_of (λ name. not (closes name)) all_names x none_closes (in_part x (map (λ (call : Called). call.name) (calls_of (whole_text u).steps)) all_names (names_part (whole_text u).steps) o) in
        let other = callees_of (procedures_in (whole_text u)) y p in
        let no : true ≡ false = sym one ∙ ap (λ name. not (closes name)) (same ∙ other.2.external) ∙ ap not (external_closes other.0) in absurd (cc)

    pub called_apart : AreApart (called_names (inventory_of us u))
    called_apart =
        subst AreApart (sym called_are)
        (apart_append (map (λ (call : Called). call.name) (calls_of (whole_text u).steps)) (names_in (all_callees (procedures_in (whole_text u))))
        (part_apart (map (λ (call : Called). call.name) (calls_of (whole_text u).steps)) all_names (names_part (whole_text u).steps) (apart_told all_names all_apart_there))
        (callees_apart (procedures_in (whole_text u)) (procedures_apart (whole_text u))) no_library)
