use Rattle.std.proofs.Common.{refl}
use Rattle.fortran_checks.specs.f_tree.Meaning.{everything}
use Rattle.fortran_checks.specs.f_tree.Runs.{runs_opened}
use Rattle.fortran_rows.specs.InputSources.{input_sources_opened}
use Rattle.fortran_rows.proofs.example_rows.input_programs.Goals as goal

pub returns-clause-fields_with_blanks_ends : goal.returns-clause-fields_with_blanks_ends
unfolding everything runs_opened input_sources_opened
returns-clause-fields_with_blanks_ends c = record { steps = 250; comes_to = refl }

pub returns-clause-records_and_columns_ends : goal.returns-clause-records_and_columns_ends
unfolding everything runs_opened input_sources_opened
returns-clause-records_and_columns_ends c = record { steps = 250; comes_to = refl }

pub returns-clause-values_by_lists_ends : goal.returns-clause-values_by_lists_ends
unfolding everything runs_opened input_sources_opened
returns-clause-values_by_lists_ends c = record { steps = 250; comes_to = refl }

pub returns-clause-ends_and_errors_ends : goal.returns-clause-ends_and_errors_ends
unfolding everything runs_opened input_sources_opened
returns-clause-ends_and_errors_ends c = record { steps = 250; comes_to = refl }

pub returns-clause-sorted_names_ends : goal.returns-clause-sorted_names_ends
unfolding everything runs_opened input_sources_opened
returns-clause-sorted_names_ends c = record { steps = 250; comes_to = refl }
