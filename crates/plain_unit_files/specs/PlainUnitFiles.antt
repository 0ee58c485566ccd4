-- That the printed C files of plain units that call each other are faithful to their FORTRAN files. ANSI X3.9-1978, sections 2.4, 3.5, 5, 14 and 15; C89, 3.7.
use Rattle.std.specs.Prelude.{◌≡◌, ℕ, ◌≤◌, true, List, map, length, Some, slice_get}
use Rattle.fortran_totality.specs.f_tree.declared.names.Options.{Options}
use Rattle.fortran_totality.specs.f_tree.declared.refusals.Refusal.{Refusal}
use Rattle.fortran_totality.specs.f_tree.declared.units.Unit.{Unit as GivenUnit}
use Rattle.fortran_totality.specs.f_tree.declared.units.File.{File}
use Rattle.fortran_totality.specs.f_tree.Lines.{unit_read}
use Rattle.fortran_totality.specs.f_tree.Setting.{IsIn}
use Rattle.plain_files.specs.declaration_rows.SetRows.{Faults}
use Rattle.plain_files.specs.declaration_rows.GlobalRows.{all_units, units_global_rows}
use Rattle.plain_files.specs.lowering.Units.{lowered_unit}
use Rattle.plain_files.specs.c_text.Printed.{printed}
use Rattle.plain_files.specs.faithful.Faithful.{Faithful}
use Rattle.plain_units.specs.unit_forms.OwnSetting.{own_facts}
use Rattle.plain_units.specs.unit_forms.PlainProcedures.{is_plain_unit}
use Rattle.plain_units.specs.unit_forms.SpellableUnits.{is_spellable_unit}
use Rattle.plain_units.specs.unit_sites.UnitSites.{UnitsOfFile, file_for}
use Rattle.plain_units.specs.unit_translation.UnitContents.{LoweredUnit, program_units, whole_text}
use Rattle.plain_units.specs.unit_translation.UnitBodies.{all_lowered, written_files}
use Rattle.plain_units.specs.unit_translation_laws.PlainUnits.{IsPlainUnitText}
use Rattle.unit_faithfulness.specs.UnitsFaithful.{AreOfFiles}

-- files break no row: none of their declarations, and no name stands for two things among all their units
pub record IsFaultless (options : Options) (trees : List File) : Type 0 where
  pub declared : (r : Refusal) → Faults options (record { files = trees }) r → ⊥
  pub named : (r : Refusal) → IsIn r (units_global_rows (all_units trees)) → ⊥

-- each file has a unit, each unit passes the tests, and is lowered to its text, which fits behind what is kept of dummy arrays
pub record AreMadeOf (options : Options) (trees : List File) (lfs : List (List LoweredUnit)) : Type 0 where
  pub of_files : AreOfFiles options trees lfs
  pub some : 1 ≤ length lfs
  pub filled : (us : List LoweredUnit) → IsIn us lfs → 1 ≤ length us
  pub plain : (j : ℕ) (given : GivenUnit) → slice_get (all_units trees) j ≡ Some given → is_plain_unit options given ≡ true
  pub spellable : (j : ℕ) (given : GivenUnit) → slice_get (all_units trees) j ≡ Some given → is_spellable_unit (unit_read options given) ≡ true
  pub lowered : (j : ℕ) (u : LoweredUnit) → slice_get (all_lowered lfs) j ≡ Some u → lowered_unit (own_facts (program_units (all_lowered lfs)) j u.unit) ≡ Some u.text
  pub short : (j : ℕ) (u : LoweredUnit) → slice_get (all_lowered lfs) j ≡ Some u → IsPlainUnitText (whole_text u)

-- LAW
-- files of such units that break no row: where their functions are made, their printed C files are faithful to them
abbrev pub EachPlainUnitSetIsFaithful : Type 0
EachPlainUnitSetIsFaithful = (options : Options) (trees : List File) (lfs : List (List LoweredUnit)) (fs : List UnitsOfFile) → IsFaultless options trees → AreMadeOf options trees lfs →
    written_files lfs ≡ Some fs → Faithful options trees (map (λ f. printed (file_for f)) fs)
