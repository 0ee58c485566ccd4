use Rattle.std.proofs.Common.{refl}
use Rattle.declaration_rows.specs.f_tree.Meaning.{everything}
use Rattle.declaration_rows.specs.f_tree.Runs.{runs_opened}
use Rattle.declaration_rows.specs.f_tree.Checks.{checks_opened}
use Rattle.fortran_rows.specs.WorkedSources.{sources_opened}
use Rattle.fortran_rows.specs.StorageSources.{storage_sources_opened}
use Rattle.declaration_rows.specs.Judgement.{judgement_opened}
use Rattle.declaration_rows.specs.StatementRows.{statement_rows_opened}
use Rattle.declaration_rows.specs.NameRows.{name_rows_opened}
use Rattle.declaration_rows.specs.UnitRows.{unit_rows_opened}
use Rattle.declaration_rows.specs.SetRows.{set_rows_opened}
use Rattle.declaration_rows.specs.Verdicts.{verdicts_opened}
use Rattle.declaration_samples.specs.CardRows.{card_rows_opened}
use Rattle.declaration_samples.specs.OrderSources.{order_sources_opened}
use Rattle.declaration_samples.specs.StorageStrays.{storage_strays_opened}
use Rattle.declaration_samples.proofs.storage.lengths_break_rows.Goals as goal

pub returns-clause-joined_and_assigned : goal.returns-clause-joined_and_assigned
unfolding everything runs_opened checks_opened sources_opened storage_sources_opened judgement_opened statement_rows_opened name_rows_opened unit_rows_opened set_rows_opened verdicts_opened card_rows_opened order_sources_opened storage_strays_opened
returns-clause-joined_and_assigned c = refl

pub returns-clause-joined_and_passed : goal.returns-clause-joined_and_passed
unfolding everything runs_opened checks_opened sources_opened storage_sources_opened judgement_opened statement_rows_opened name_rows_opened unit_rows_opened set_rows_opened verdicts_opened card_rows_opened order_sources_opened storage_strays_opened
returns-clause-joined_and_passed c = refl

pub returns-clause-two_places_of_it_joined : goal.returns-clause-two_places_of_it_joined
unfolding everything runs_opened checks_opened sources_opened storage_sources_opened judgement_opened statement_rows_opened name_rows_opened unit_rows_opened set_rows_opened verdicts_opened card_rows_opened order_sources_opened storage_strays_opened
returns-clause-two_places_of_it_joined c = refl

pub returns-clause-passed : goal.returns-clause-passed
unfolding everything runs_opened checks_opened sources_opened storage_sources_opened judgement_opened statement_rows_opened name_rows_opened unit_rows_opened set_rows_opened verdicts_opened card_rows_opened order_sources_opened storage_strays_opened
returns-clause-passed c = refl

pub returns-clause-passed_in_parentheses : goal.returns-clause-passed_in_parentheses
unfolding everything runs_opened checks_opened sources_opened storage_sources_opened judgement_opened statement_rows_opened name_rows_opened unit_rows_opened set_rows_opened verdicts_opened card_rows_opened order_sources_opened storage_strays_opened
returns-clause-passed_in_parentheses c = refl

pub returns-clause-compared : goal.returns-clause-compared
unfolding everything runs_opened checks_opened sources_opened storage_sources_opened judgement_opened statement_rows_opened name_rows_opened unit_rows_opened set_rows_opened verdicts_opened card_rows_opened order_sources_opened storage_strays_opened
returns-clause-compared c = refl

pub returns-clause-item_too_large : goal.returns-clause-item_too_large
unfolding everything runs_opened checks_opened sources_opened storage_sources_opened judgement_opened statement_rows_opened name_rows_opened unit_rows_opened set_rows_opened verdicts_opened card_rows_opened order_sources_opened storage_strays_opened
returns-clause-item_too_large c = refl

pub returns-clause-largest_item : goal.returns-clause-largest_item
unfolding everything runs_opened checks_opened sources_opened storage_sources_opened judgement_opened statement_rows_opened name_rows_opened unit_rows_opened set_rows_opened verdicts_opened card_rows_opened order_sources_opened storage_strays_opened
returns-clause-largest_item c = refl
