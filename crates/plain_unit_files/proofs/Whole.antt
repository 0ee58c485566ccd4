-- The laws of plain units, of their files and of printed texts, put together.
use Rattle.std.specs.Prelude.{List}
use Rattle.fortran_totality.specs.f_tree.declared.names.Options.{Options}
use Rattle.fortran_totality.specs.f_tree.declared.units.File.{File}
use Rattle.fortran_totality.specs.f_tree.Holding.{EachRunIsMeant}
use Rattle.plain_units.specs.unit_translation.UnitContents.{LoweredUnit, program_units}
use Rattle.plain_units.specs.unit_translation.UnitBodies.{all_lowered}
use Rattle.plain_units.specs.unit_translation_laws.PlainUnits.{ArePlainUnits}
use Rattle.plain_units.proofs.unit_translation_laws.Translated.{plain_units_are_rendered, plain_units_run_alike}
use Rattle.unit_faithfulness.proofs.Settings.{own_is_setting}
use Rattle.unit_faithfulness.proofs.Written.{storage_in}
use Rattle.unit_faithfulness.proofs.Faithfulness.{units_sets_are_faithful_by}
use Rattle.plain_units.proofs.PlainParts.{plain_units_are_told}
use Rattle.plain_unit_files.specs.PlainUnitFiles.{IsFaultless, AreMadeOf, EachPlainUnitSetIsFaithful}
use Rattle.plain_unit_files.proofs.Composed.{OwnSettingsAreSettings, plain, plain_unit_sets_are_faithful_by}

settings_are : OwnSettingsAreSettings
settings_are us plain = own_is_setting (program_units us) (storage_in us plain)

pub plain_units_of : (options : Options) (trees : List File) (lfs : List (List LoweredUnit)) → IsFaultless options trees → AreMadeOf options trees lfs → ArePlainUnits (all_lowered lfs)
plain_units_of options trees lfs faultless made = plain options trees lfs made plain_units_are_told faultless

pub plain_unit_sets_are_faithful : EachRunIsMeant → EachPlainUnitSetIsFaithful
plain_unit_sets_are_faithful runs = plain_unit_sets_are_faithful_by plain_units_are_told (units_sets_are_faithful_by plain_units_run_alike) plain_units_are_rendered settings_are runs
