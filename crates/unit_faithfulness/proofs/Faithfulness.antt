-- The texts of the C files that are made for files of units of numbers that call each other are faithful to those files, where such units run as their C
-- files do. ANSI X3.9-1978, sections 2.4, 3.5, 5, 14 and 15; C89, 3.1.2.2 and 3.7.
use Rattle.std.specs.Prelude.{◌≡◌, ℕ, List, ◌++◌, Some}
use Rattle.std.proofs.Common.{refl, sym, ◌∙◌, subst}
use Rattle.std.proofs.lemmas.List.{map-append}
use Rattle.main_faithfulness.specs.run_state.Units.{Units}
use Rattle.main_faithfulness.specs.f_tree.declared.names.Options.{Options}
use Rattle.main_faithfulness.specs.f_tree.declared.units.File.{File}
use Rattle.main_faithfulness.specs.f_tree.Values.{Gives}
use Rattle.main_faithfulness.specs.f_tree.Store.{Store}
use Rattle.main_faithfulness.specs.f_tree.Facts.{ProgramUnit}
use Rattle.main_faithfulness.specs.f_tree.Setting.{Setting, IsSetting}
use Rattle.main_faithfulness.specs.f_tree.Images.{image_store}
use Rattle.main_faithfulness.specs.f_tree.Meaning.{units_in, Closed}
use Rattle.main_faithfulness.specs.faithful.Faithful.{SameRuns, SamePrograms}
use Rattle.unit_translation_laws.specs.unit_forms.OwnSetting.{own_setting}
use Rattle.unit_translation_laws.specs.unit_sites.UnitSites.{UnitsOfFile, files_of}
use Rattle.unit_translation_laws.specs.unit_translation.UnitContents.{LoweredUnit, program_units}
use Rattle.unit_translation_laws.specs.unit_translation.UnitBodies.{all_lowered, written_files}
use Rattle.unit_translation_laws.specs.PlainUnits.{ArePlainUnits, PlainUnitsRunAlike}
use Rattle.unit_faithfulness.specs.UnitsFaithful.{AreOfFiles, no_files, one_file, AreMeant, EachUnitsSetIsFaithful}
use Rattle.unit_faithfulness.proofs.Settings.{own_is_setting, only_own, own_image}
use Rattle.unit_faithfulness.proofs.Written.{storage_in}
use Rattle.unit_faithfulness.proofs.Signed.{files_have_signatures}
use Rattle.unit_faithfulness.proofs.Links.{units_link}

-- the units of the files are those that are lowered
pub units_are : (options : Options) (trees : List File) (lfs : List (List LoweredUnit)) → AreOfFiles options trees lfs → units_in options trees ≡ program_units (all_lowered lfs)
unfolding units_in
units_are options _ _ no_files = refl
units_are options _ _ (one_file tree us trees lfs first later) =
    (λ i. first.units i ++ units_are options trees lfs later i) ∙ sym (map-append (λ (u : LoweredUnit). u.unit) us (all_lowered lfs))

module _ (alike : PlainUnitsRunAlike) (lfs : List (List LoweredUnit)) (fs : List UnitsOfFile) (plain : ArePlainUnits (all_lowered lfs)) (written : written_files lfs ≡ Some fs) (meant : AreMeant (all_lowered lfs)) where
  abbrev us : List LoweredUnit
  us = all_lowered lfs

  -- over each setting of the units their runs are those of the files
  runs_over : (homes : Setting) → IsSetting (program_units us) homes → (units : Units) (n : ℕ) → SameRuns (program_units us) homes (files_of fs) units n
  runs_over homes setting units n =
      subst (λ (h : Setting). SameRuns (program_units us) h (files_of fs) units n) (sym (only_own (program_units us) (storage_in us plain) homes setting)) (alike lfs fs plain written units n (meant units n))

  programs_are : Closed (program_units us) → SamePrograms (program_units us) (files_of fs)
  programs_are closed = record { linked = units_link lfs fs plain written closed.one_main; runs = λ homes setting units are n. runs_over homes setting units n }

-- where units run as the C files that are made for them
pub units_sets_are_faithful_by : PlainUnitsRunAlike → EachUnitsSetIsFaithful
units_sets_are_faithful_by alike options trees lfs fs texts of_files plain written spelled meant =
    let S = program_units (all_lowered lfs) in
    let back = sym (units_are options trees lfs of_files) in
    let storage = storage_in (all_lowered lfs) plain in
    record {
      c_trees = files_of fs;
      written = spelled;
      signatures = files_have_signatures options trees lfs fs of_files plain written;
      setting = own_setting S;
      is_setting = subst (λ (units : List ProgramUnit). IsSetting units (own_setting S)) back (own_is_setting S storage);
      imaged = λ homes setting. subst (λ (units : List ProgramUnit). (store : Store) × (image_store homes units ≡ Gives store)) back (own_image homes S storage);
      closed = subst (λ (units : List ProgramUnit). Closed units → SamePrograms units (files_of fs)) back (programs_are alike lfs fs plain written meant);
    }
