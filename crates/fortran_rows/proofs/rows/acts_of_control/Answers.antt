use Rattle.std.proofs.Common.{refl}
use Rattle.fortran_checks.specs.f_tree.Meaning.{everything}
use Rattle.fortran_checks.specs.f_tree.Runs.{runs_opened}
use Rattle.fortran_rows.specs.WorkedSources.{sources_opened}
use Rattle.fortran_rows.specs.ErrorSources.{error_sources_opened}
use Rattle.fortran_rows.proofs.rows.acts_of_control.Goals as goal

pub returns-clause-zero_step : goal.returns-clause-zero_step
unfolding everything runs_opened sources_opened
returns-clause-zero_step c = record { goes_on = refl; meets = refl }

pub returns-clause-zero_step_of_items : goal.returns-clause-zero_step_of_items
unfolding everything runs_opened sources_opened error_sources_opened
returns-clause-zero_step_of_items c = record { goes_on = refl; meets = refl }

pub returns-clause-variable_changed : goal.returns-clause-variable_changed
unfolding everything runs_opened sources_opened
returns-clause-variable_changed c = record { goes_on = refl; meets = refl }

pub returns-clause-assigned_label : goal.returns-clause-assigned_label
unfolding everything runs_opened sources_opened
returns-clause-assigned_label c = record { goes_on = refl; meets = refl }

pub returns-clause-in_transfer : goal.returns-clause-in_transfer
unfolding everything runs_opened sources_opened
returns-clause-in_transfer c = record { goes_on = refl; meets = refl }
