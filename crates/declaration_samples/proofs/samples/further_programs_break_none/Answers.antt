use Rattle.std.proofs.Common.{refl}
use Rattle.declaration_rows.specs.f_tree.Meaning.{everything}
use Rattle.declaration_rows.specs.f_tree.Runs.{runs_opened}
use Rattle.declaration_rows.specs.f_tree.Checks.{checks_opened}
use Rattle.fortran_rows.specs.ActsSources.{acts_sources_opened}
use Rattle.fortran_rows.specs.ErrorSources.{error_sources_opened}
use Rattle.fortran_rows.specs.FurtherSources.{further_sources_opened}
use Rattle.fortran_rows.specs.OrderSources.{order_sources_opened}
use Rattle.fortran_rows.specs.TransferSources.{transfer_sources_opened}
use Rattle.fortran_rows.specs.WorkedSources.{sources_opened}
use Rattle.declaration_rows.specs.Judgement.{judgement_opened}
use Rattle.declaration_rows.specs.StatementRows.{statement_rows_opened}
use Rattle.declaration_rows.specs.NameRows.{name_rows_opened}
use Rattle.declaration_rows.specs.UnitRows.{unit_rows_opened}
use Rattle.declaration_rows.specs.SetRows.{set_rows_opened}
use Rattle.declaration_samples.specs.CardRows.{card_rows_opened}
use Rattle.declaration_samples.proofs.samples.further_programs_break_none.Goals as goal

pub returns-clause-transfers : goal.returns-clause-transfers
unfolding everything runs_opened checks_opened transfer_sources_opened sources_opened judgement_opened statement_rows_opened name_rows_opened unit_rows_opened set_rows_opened card_rows_opened
returns-clause-transfers c = refl

pub returns-clause-stock_report : goal.returns-clause-stock_report
unfolding everything runs_opened checks_opened transfer_sources_opened sources_opened judgement_opened statement_rows_opened name_rows_opened unit_rows_opened set_rows_opened card_rows_opened
returns-clause-stock_report c = refl

pub returns-clause-further : goal.returns-clause-further
unfolding everything runs_opened checks_opened further_sources_opened sources_opened judgement_opened statement_rows_opened name_rows_opened unit_rows_opened set_rows_opened card_rows_opened
returns-clause-further c = refl

pub returns-clause-block_with_values : goal.returns-clause-block_with_values
unfolding everything runs_opened checks_opened further_sources_opened sources_opened judgement_opened statement_rows_opened name_rows_opened unit_rows_opened set_rows_opened card_rows_opened
returns-clause-block_with_values c = refl

pub returns-clause-order : goal.returns-clause-order
unfolding everything runs_opened checks_opened order_sources_opened sources_opened judgement_opened statement_rows_opened name_rows_opened unit_rows_opened set_rows_opened card_rows_opened
returns-clause-order c = refl

pub returns-clause-errors : goal.returns-clause-errors
unfolding everything runs_opened checks_opened error_sources_opened sources_opened judgement_opened statement_rows_opened name_rows_opened unit_rows_opened set_rows_opened card_rows_opened
returns-clause-errors c = refl

pub returns-clause-acts : goal.returns-clause-acts
unfolding everything runs_opened checks_opened acts_sources_opened sources_opened judgement_opened statement_rows_opened name_rows_opened unit_rows_opened set_rows_opened card_rows_opened
returns-clause-acts c = refl
