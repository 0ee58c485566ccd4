-- That the texts of the C files which are made for files of units of numbers that call each other are faithful to those files.
-- ANSI X3.9-1978, sections 2.4, 3.5, 5, 14 and 15; C89, 3.1.2.2 and 3.7.
use Rattle.std.specs.Prelude.{◌≡◌, ℕ, List, [], ◌∷◌, map, Some, slice_get}
use Rattle.main_faithfulness.specs.run_state.Units.{Units}
use Rattle.main_faithfulness.specs.f_tree.declared.names.Options.{Options}
use Rattle.main_faithfulness.specs.f_tree.declared.units.Unit.{Unit as GivenUnit}
use Rattle.main_faithfulness.specs.f_tree.declared.units.File.{File}
use Rattle.main_faithfulness.specs.f_tree.Values.{Bytes, NoMeaning}
use Rattle.main_faithfulness.specs.f_tree.Uses.{uses_of_statements}
use Rattle.main_faithfulness.specs.f_tree.Attributes.{arrays_of}
use Rattle.main_faithfulness.specs.f_tree.Lines.{unit_read}
use Rattle.main_faithfulness.specs.f_tree.Meaning.{ftn, act_of}
use Rattle.main_faithfulness.specs.faithful.Faithful.{SpellAll, Faithful}
use Rattle.main_faithfulness.specs.faithful.Signatures.{dummy_of}
use Rattle.unit_translation_laws.specs.unit_forms.OwnSetting.{own_setting}
use Rattle.unit_translation_laws.specs.unit_sites.UnitSites.{UnitsOfFile, files_of}
use Rattle.unit_translation_laws.specs.unit_translation.UnitContents.{LoweredUnit, program_units}
use Rattle.unit_translation_laws.specs.unit_translation.UnitBodies.{all_lowered, written_files}
use Rattle.unit_translation_laws.specs.PlainUnits.{ArePlainUnits}

-- the units are those of the file, and their dummies stand for what the statements say
pub record AreOfFile (options : Options) (tree : File) (us : List LoweredUnit) : Type 0 where
  pub units : map (unit_read options) tree.units ≡ program_units us
  pub uses : (j : ℕ) (given : GivenUnit) (u : LoweredUnit) → slice_get tree.units j ≡ Some given → slice_get us j ≡ Some u → (x : Bytes) →
      u.use_of x ≡ (dummy_of (uses_of_statements (arrays_of given) given.statements) u.unit.attribute x).use_of

-- the units of each file
pub data AreOfFiles (options : Options) : List File → List (List LoweredUnit) → Type 0 where
  no_files : AreOfFiles options [] []
  one_file : (tree : File) (us : List LoweredUnit) (trees : List File) (lfs : List (List LoweredUnit)) → AreOfFile options tree us → AreOfFiles options trees lfs
      → AreOfFiles options (tree ∷ trees) (us ∷ lfs)

-- the units never come to a form without meaning
abbrev pub AreMeant : List LoweredUnit → Type 0
AreMeant us = (units : Units) (n : ℕ) → act_of (ftn (own_setting (program_units us)) (program_units us) units n) ≡ Some NoMeaning → ⊥

-- LAW
-- files of such units, which are lowered, and texts of which each spells the C file for one of them
abbrev pub EachUnitsSetIsFaithful : Type 0
EachUnitsSetIsFaithful = (options : Options) (trees : List File) (lfs : List (List LoweredUnit)) (fs : List UnitsOfFile) (texts : List (List ℕ)) → AreOfFiles options trees lfs → ArePlainUnits (all_lowered lfs) →
    written_files lfs ≡ Some fs → SpellAll texts (files_of fs) → AreMeant (all_lowered lfs) → Faithful options trees texts
