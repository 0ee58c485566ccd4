-- The C files of a set.
use Rattle.std.specs.Global.{Vec}
use Rattle.std.specs.Prelude.{◌≡◌, ℕ, suc, Bool, true, ◌&&◌, List, [], ◌∷◌, ◌++◌, Option, Some, None, option_map, option_and_then, Result, Ok, Err, if◌then◌else◌}
use Rattle.std.proofs.Common.{refl, sym, ap, subst, ◌∙◌}
use Rattle.f_tree.specs.declared.names.Options.{Options}
use Rattle.f_tree.specs.declared.refusals.Fail.{Fail}
use Rattle.f_tree.specs.declared.refusals.Fail.TheVariants as fail
use Rattle.f_tree.specs.declared.refusals.Refusal.{Refusal}
use Rattle.f_tree.specs.declared.units.File.{File}
use Rattle.f_tree.specs.declared.units.Unit.{Unit as GivenUnit}
use Rattle.f_tree.specs.Values.{Bytes}
use Rattle.declaration_rows.specs.GlobalRows.{all_units}
use Rattle.declaration_rows.specs.Verdicts.{first_of}
use Rattle.refusal_order.specs.Earliest.{earliest}
use Rattle.refusal_order.proofs.FirstOfBoth.{first_of_both, earliest_none}
use Rattle.c_tree.specs.declared.file.CFile.{CFile}
use Rattle.unit_translation.specs.unit_sites.UnitSites.{files_of as c_files}
use Rattle.unit_translation.specs.UnitContents.{LoweredUnit}
use Rattle.unit_translation.specs.UnitBodies.{all_lowered}
use Rattle.unit_writer.specs.named_units.NamedUnits.{named_files}
use Rattle.translated_files.specs.TranslatedFiles.{procedure_names, lowered_files, has_units, each_has_units, made_files, files_of, rows_of_lowering, rows_behind, row_of_none, files_without_units, units_not_translated, files_not_translated}
use Rattle.translator.specs.declared.unit.PlainUnit.{PlainUnit}
use Rattle.translator.specs.LoweredFiles.{EachIsKnown, WereLowered, AreUnitsOf, IsAnswer, AreFilesBy, AreWrittenFiles, AreTranslatedUnits}
use Rattle.translator.specs.TranslatedFiles.{AreTranslations}
use Rattle.translator.proofs.FileLemmas.{no_rows, in_one_list}

-- ## From the units

module _ (options : Options) (files : List File) where
  abbrev lowered_rows : List Refusal
  lowered_rows = rows_of_lowering options (all_units files) 0 (all_units files)

  -- where a unit has a row, not all are lowered
  refused_by : (r : Refusal) (o : Option (List (List LoweredUnit))) → lowered_files options (all_units files) 0 files ≡ o → first_of lowered_rows ≡ Some r
      → first_of (units_not_translated options files) ≡ Some r
  unfolding units_not_translated rows_behind first_of
  refused_by r None lowered is = ap (λ o. first_of (rows_behind o lowered_rows files)) lowered ∙ is
  refused_by r (Some lfs) lowered is =
      let none : None ≡ Some r =
      sym (ap first_of (no_rows options (all_units files) 0 (all_units files) (all_lowered lfs) (in_one_list options (all_units files) 0 files lfs lowered))) ∙ is in
      absurd (cc)

  -- a row of the units, or want of memory, is the answer
  pub units_refused : (procedures : List Bytes) (e : Fail) → procedure_names (all_units files) ≡ procedures → AreUnitsOf options procedures files (Err e) → AreTranslatedUnits options files (Err e)
  unfolding AreUnitsOf AreTranslatedUnits IsAnswer
  units_refused procedures (fail.Refused r) names are = refused_by r (lowered_files options (all_units files) 0 files) refl (are names)
  units_refused procedures fail.NoMemory names are = tt

  pub units_lowered : (procedures : List Bytes) (found : Vec PlainUnit) → procedure_names (all_units files) ≡ procedures → AreUnitsOf options procedures files (Ok found) → WereLowered options files found.items
  unfolding AreUnitsOf
  units_lowered procedures found names are = are names

  pub units_known : (plains : List PlainUnit) → WereLowered options files plains → EachIsKnown plains
  units_known plains were = record { units = all_lowered were.lowered; told = were.told }

  pub units_translated : (plains : List PlainUnit) (result : Result (List CFile) Fail) → WereLowered options files plains → AreWrittenFiles files plains result → AreTranslatedUnits options files result
  unfolding AreTranslatedUnits AreFilesBy units_not_translated rows_behind named_files
  units_translated plains result were written =
      subst (λ o. IsAnswer (List CFile) (rows_behind o lowered_rows files) (option_map c_files (option_and_then named_files o)) result) (sym were.were)
      (written.meant were.lowered were.told were.many)

  -- want of memory
  pub none_translated : (result : Result (List CFile) Fail) → result ≡ Err fail.NoMemory → AreTranslatedUnits options files result
  unfolding AreTranslatedUnits IsAnswer
  none_translated result none = subst (AreTranslatedUnits options files) (sym none) tt

-- ## Files without units

none_here : (k : ℕ) (units : List GivenUnit) (later : List Refusal) → first_of (row_of_none k units ++ later) ≡ None → (has_units units ≡ true) × (first_of later ≡ None)
unfolding has_units row_of_none first_of
none_here k [] later none = absurd (cc)
none_here k (u ∷ units) later none = (refl, none)

none_empty : (k : ℕ) (files : List File) → first_of (files_without_units k files) ≡ None → each_has_units files ≡ true
unfolding each_has_units files_without_units
none_empty k [] none = refl
none_empty k (f ∷ files) none =
    let here = none_here k f.units (files_without_units (suc k) files) none in
    λ i. here.0 i && none_empty (suc k) files here.1 i

-- ## The whole

module _ (options : Options) (files : List File) (empty : Option Refusal) (none : empty ≡ first_of (files_without_units 0 files)) where
  rows_are : (units : Option Refusal) → first_of (units_not_translated options files) ≡ units → first_of (files_not_translated options files) ≡ earliest empty units
  unfolding files_not_translated
  rows_are units is = first_of_both (files_without_units 0 files) (units_not_translated options files) ∙ (λ i. earliest (sym none i) (is i))

  pub set_refused : (r row : Refusal) → AreTranslatedUnits options files (Err (fail.Refused row)) → Some r ≡ earliest empty (Some row) → AreTranslations options files (Err (fail.Refused r))
  unfolding AreTranslatedUnits IsAnswer
  set_refused r row is first = rows_are (Some row) is ∙ sym first

  pub set_translated : (made : List CFile) (result : Result (List CFile) Fail) → AreTranslatedUnits options files (Ok made) → (empty ≡ None → result ≡ Ok made)
      → ((row : Refusal) → empty ≡ Some row → result ≡ Err (fail.Refused row)) → AreTranslations options files result
  unfolding AreTranslatedUnits IsAnswer files_of made_files
  set_translated made result is kept refused = by empty refl
    where
      by : (o : Option Refusal) → empty ≡ o → AreTranslations options files result
      by None same =
          subst (AreTranslations options files) (sym (kept same))
          (ap (λ (b : Bool). option_map c_files (if b then option_and_then named_files (lowered_files options (all_units files) 0 files) else None)) (none_empty 0 files (sym none ∙ same)) ∙ is.made)
      by (Some r) same = subst (AreTranslations options files) (sym (refused r same)) (rows_are None is.no_row ∙ earliest_none empty ∙ same)
