use Rattle.std.proofs.Common.{refl}
use Rattle.fortran_checks.specs.f_tree.Meaning.{everything}
use Rattle.fortran_checks.specs.f_tree.Runs.{runs_opened, no_options}
use Rattle.fortran_checks.specs.f_tree.Checks.{checks_opened}
use Rattle.fortran_checks.proofs.CheckLemmas.{checked_well, sets_well}
use Rattle.fortran_rows.specs.TransferSources.{transfer_sources_opened, stock_report}
use Rattle.fortran_rows.specs.FurtherSources.{further_sources_opened, block_with_values}
use Rattle.fortran_rows.specs.LongSources.{sum_of_a_thousand}
use Rattle.fortran_rows.specs.ActsSources.{acts_sources_opened}
use Rattle.fortran_rows.specs.OrderSources.{order_sources_opened}
use Rattle.fortran_rows.specs.ErrorSources.{error_sources_opened}
use Rattle.fortran_rows.specs.WorkedSources.{sources_opened}
use Rattle.fortran_rows.proofs.well_formed_rows.further_sets_are_well_formed.Goals as goal

pub returns-clause-transfers : goal.returns-clause-transfers
unfolding everything runs_opened checks_opened transfer_sources_opened
returns-clause-transfers c = sets_well _ refl

pub returns-clause-stock_report : goal.returns-clause-stock_report
unfolding everything runs_opened checks_opened transfer_sources_opened
returns-clause-stock_report c = checked_well no_options _ stock_report refl

pub returns-clause-further : goal.returns-clause-further
unfolding everything runs_opened checks_opened further_sources_opened
returns-clause-further c = sets_well _ refl

pub returns-clause-block_with_values : goal.returns-clause-block_with_values
unfolding everything runs_opened checks_opened further_sources_opened
returns-clause-block_with_values c = checked_well no_options _ block_with_values refl

pub returns-clause-long : goal.returns-clause-long
unfolding everything runs_opened checks_opened sum_of_a_thousand
returns-clause-long c = sets_well _ refl

pub returns-clause-acts : goal.returns-clause-acts
unfolding everything runs_opened checks_opened acts_sources_opened
returns-clause-acts c = sets_well _ refl

pub returns-clause-order : goal.returns-clause-order
unfolding everything runs_opened checks_opened order_sources_opened
returns-clause-order c = sets_well _ refl

pub returns-clause-errors : goal.returns-clause-errors
unfolding everything runs_opened checks_opened error_sources_opened sources_opened
returns-clause-errors c = sets_well _ refl
