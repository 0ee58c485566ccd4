use Rattle.std.proofs.Common.{refl}
use Rattle.declaration_rows.specs.f_tree.Meaning.{everything}
use Rattle.declaration_rows.specs.f_tree.Runs.{runs_opened}
use Rattle.declaration_rows.specs.f_tree.Checks.{checks_opened}
use Rattle.fortran_rows.specs.WorkedSources.{sources_opened}
use Rattle.fortran_rows.specs.StorageSources.{storage_sources_opened}
use Rattle.declaration_rows.specs.Judgement.{judgement_opened}
use Rattle.declaration_rows.specs.StatementRows.{statement_rows_opened}
use Rattle.declaration_rows.specs.NameRows.{name_rows_opened}
use Rattle.declaration_rows.specs.UnitRows.{unit_rows_opened}
use Rattle.declaration_rows.specs.SetRows.{set_rows_opened}
use Rattle.declaration_rows.specs.Verdicts.{verdicts_opened}
use Rattle.declaration_samples.specs.CardRows.{card_rows_opened}
use Rattle.declaration_samples.specs.OrderSources.{order_sources_opened}
use Rattle.declaration_samples.specs.StorageStrays.{storage_strays_opened}
use Rattle.declaration_samples.proofs.storage.worked_storage_breaks_none.Goals as goal

pub returns-clause-worked : goal.returns-clause-worked
unfolding everything runs_opened checks_opened sources_opened storage_sources_opened judgement_opened statement_rows_opened name_rows_opened unit_rows_opened set_rows_opened verdicts_opened card_rows_opened order_sources_opened storage_strays_opened
returns-clause-worked c = refl

pub returns-clause-examples : goal.returns-clause-examples
unfolding everything runs_opened checks_opened sources_opened storage_sources_opened judgement_opened statement_rows_opened name_rows_opened unit_rows_opened set_rows_opened verdicts_opened card_rows_opened order_sources_opened storage_strays_opened
returns-clause-examples c = refl

pub returns-clause-overlays : goal.returns-clause-overlays
unfolding everything runs_opened checks_opened sources_opened storage_sources_opened judgement_opened statement_rows_opened name_rows_opened unit_rows_opened set_rows_opened verdicts_opened card_rows_opened order_sources_opened storage_strays_opened
returns-clause-overlays c = refl
