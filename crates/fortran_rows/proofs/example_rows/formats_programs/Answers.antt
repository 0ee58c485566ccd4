use Rattle.std.proofs.Common.{refl}
use Rattle.fortran_checks.specs.f_tree.Meaning.{everything}
use Rattle.fortran_checks.specs.f_tree.Runs.{runs_opened}
use Rattle.fortran_rows.specs.FormatsSources.{formats_sources_opened}
use Rattle.fortran_rows.proofs.example_rows.formats_programs.Goals as goal

pub returns-clause-reversion_to_the_last_group_ends : goal.returns-clause-reversion_to_the_last_group_ends
unfolding everything runs_opened formats_sources_opened
returns-clause-reversion_to_the_last_group_ends c = record { steps = 250; comes_to = refl }

pub returns-clause-lists_in_lists_ends : goal.returns-clause-lists_in_lists_ends
unfolding everything runs_opened formats_sources_opened
returns-clause-lists_in_lists_ends c = record { steps = 250; comes_to = refl }

pub returns-clause-fields_of_each_kind_ends : goal.returns-clause-fields_of_each_kind_ends
unfolding everything runs_opened formats_sources_opened
returns-clause-fields_of_each_kind_ends c = record { steps = 250; comes_to = refl }

pub returns-clause-columns_of_a_record_ends : goal.returns-clause-columns_of_a_record_ends
unfolding everything runs_opened formats_sources_opened
returns-clause-columns_of_a_record_ends c = record { steps = 250; comes_to = refl }

pub returns-clause-formats_that_are_texts_ends : goal.returns-clause-formats_that_are_texts_ends
unfolding everything runs_opened formats_sources_opened
returns-clause-formats_that_are_texts_ends c = record { steps = 250; comes_to = refl }

pub returns-clause-texts_as_files_ends : goal.returns-clause-texts_as_files_ends
unfolding everything runs_opened formats_sources_opened
returns-clause-texts_as_files_ends c = record { steps = 250; comes_to = refl }
