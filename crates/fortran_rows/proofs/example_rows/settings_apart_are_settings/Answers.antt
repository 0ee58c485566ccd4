use Rattle.std.proofs.Common.{refl}
use Rattle.fortran_checks.specs.f_tree.Meaning.{everything}
use Rattle.fortran_checks.specs.f_tree.Runs.{runs_opened}
use Rattle.fortran_rows.specs.ApartSources.{apart_sources_opened}
use Rattle.fortran_rows.specs.ActsSources.{acts_sources_opened}
use Rattle.fortran_rows.specs.BitsSources.{bits_sources_opened}
use Rattle.fortran_rows.specs.ControlSources.{control_sources_opened}
use Rattle.fortran_rows.specs.ErrorSources.{error_sources_opened}
use Rattle.fortran_rows.specs.ExpressionsSources.{expressions_sources_opened}
use Rattle.fortran_rows.specs.FormatsSources.{formats_sources_opened}
use Rattle.fortran_rows.specs.FurtherSources.{further_sources_opened}
use Rattle.fortran_rows.specs.InputSources.{input_sources_opened}
use Rattle.fortran_rows.specs.LoopsSources.{loops_sources_opened}
use Rattle.fortran_rows.specs.OrderSources.{order_sources_opened}
use Rattle.fortran_rows.specs.ProceduresSources.{procedures_sources_opened}
use Rattle.fortran_rows.specs.RangeSources.{range_sources_opened}
use Rattle.fortran_rows.specs.StorageSources.{storage_sources_opened}
use Rattle.fortran_rows.specs.TextsSources.{texts_sources_opened}
use Rattle.fortran_rows.specs.TransferSources.{transfer_sources_opened}
use Rattle.fortran_rows.specs.UnitsSources.{units_sources_opened}
use Rattle.fortran_rows.specs.WorkedSources.{sources_opened}
use Rattle.fortran_laws.proofs.SettingsApart.{apart_is_a_setting}
use Rattle.fortran_rows.proofs.example_rows.settings_apart_are_settings.Goals as goal

pub returns-clause-law : goal.returns-clause-law
returns-clause-law c = apart_is_a_setting

pub returns-clause-worked : goal.returns-clause-worked
unfolding everything runs_opened apart_sources_opened bits_sources_opened loops_sources_opened range_sources_opened acts_sources_opened control_sources_opened error_sources_opened expressions_sources_opened formats_sources_opened further_sources_opened input_sources_opened order_sources_opened procedures_sources_opened storage_sources_opened texts_sources_opened transfer_sources_opened units_sources_opened sources_opened
returns-clause-worked c = refl
