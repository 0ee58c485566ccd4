use Rattle.std.proofs.Common.{refl}
use Rattle.declaration_rows.specs.f_tree.Meaning.{everything}
use Rattle.declaration_rows.specs.f_tree.Runs.{runs_opened}
use Rattle.declaration_rows.specs.f_tree.Checks.{checks_opened}
use Rattle.fortran_rows.specs.WorkedSources.{sources_opened}
use Rattle.fortran_rows.specs.StorageSources.{storage_sources_opened}
use Rattle.declaration_rows.specs.Judgement.{judgement_opened}
use Rattle.declaration_rows.specs.StatementRows.{statement_rows_opened}
use Rattle.declaration_rows.specs.NameRows.{name_rows_opened}
use Rattle.declaration_rows.specs.UnitRows.{unit_rows_opened}
use Rattle.declaration_rows.specs.SetRows.{set_rows_opened}
use Rattle.declaration_rows.specs.Verdicts.{verdicts_opened}
use Rattle.declaration_samples.specs.CardRows.{card_rows_opened}
use Rattle.declaration_samples.specs.OrderSources.{order_sources_opened}
use Rattle.declaration_samples.specs.StorageStrays.{storage_strays_opened}
use Rattle.declaration_samples.proofs.storage.blocks_of_units_break_rows.Goals as goal

pub returns-clause-named_lengths : goal.returns-clause-named_lengths
unfolding everything runs_opened checks_opened sources_opened storage_sources_opened judgement_opened statement_rows_opened name_rows_opened unit_rows_opened set_rows_opened verdicts_opened card_rows_opened order_sources_opened storage_strays_opened
returns-clause-named_lengths c = refl

pub returns-clause-blank_lengths : goal.returns-clause-blank_lengths
unfolding everything runs_opened checks_opened sources_opened storage_sources_opened judgement_opened statement_rows_opened name_rows_opened unit_rows_opened set_rows_opened verdicts_opened card_rows_opened order_sources_opened storage_strays_opened
returns-clause-blank_lengths c = refl

pub returns-clause-filled_twice : goal.returns-clause-filled_twice
unfolding everything runs_opened checks_opened sources_opened storage_sources_opened judgement_opened statement_rows_opened name_rows_opened unit_rows_opened set_rows_opened verdicts_opened card_rows_opened order_sources_opened storage_strays_opened
returns-clause-filled_twice c = refl

pub returns-clause-largest_storage : goal.returns-clause-largest_storage
unfolding everything runs_opened checks_opened sources_opened storage_sources_opened judgement_opened statement_rows_opened name_rows_opened unit_rows_opened set_rows_opened verdicts_opened card_rows_opened order_sources_opened storage_strays_opened
returns-clause-largest_storage c = refl

pub returns-clause-storage_too_large : goal.returns-clause-storage_too_large
unfolding everything runs_opened checks_opened sources_opened storage_sources_opened judgement_opened statement_rows_opened name_rows_opened unit_rows_opened set_rows_opened verdicts_opened card_rows_opened order_sources_opened storage_strays_opened
returns-clause-storage_too_large c = refl
