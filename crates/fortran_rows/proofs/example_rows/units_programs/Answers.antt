use Rattle.std.proofs.Common.{refl}
use Rattle.fortran_checks.specs.f_tree.Meaning.{everything}
use Rattle.fortran_checks.specs.f_tree.Runs.{runs_opened}
use Rattle.fortran_rows.specs.UnitsSources.{units_sources_opened}
use Rattle.fortran_rows.proofs.example_rows.units_programs.Goals as goal

pub returns-clause-records_read_again_ends : goal.returns-clause-records_read_again_ends
unfolding everything runs_opened units_sources_opened
returns-clause-records_read_again_ends c = record { steps = 250; comes_to = refl }

pub returns-clause-statuses_of_units_ends : goal.returns-clause-statuses_of_units_ends
unfolding everything runs_opened units_sources_opened
returns-clause-statuses_of_units_ends c = record { steps = 250; comes_to = refl }

pub returns-clause-blanks_as_zeros_ends : goal.returns-clause-blanks_as_zeros_ends
unfolding everything runs_opened units_sources_opened
returns-clause-blanks_as_zeros_ends c = record { steps = 250; comes_to = refl }
