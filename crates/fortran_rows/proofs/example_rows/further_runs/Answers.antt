use Rattle.std.proofs.Common.{refl}
use Rattle.fortran_checks.specs.f_tree.Meaning.{everything}
use Rattle.fortran_checks.specs.f_tree.Runs.{runs_opened}
use Rattle.fortran_rows.specs.FurtherSources.{further_sources_opened}
use Rattle.fortran_rows.proofs.example_rows.further_runs.Goals as goal

pub returns-clause-branch_with_a_list_ends : goal.returns-clause-branch_with_a_list_ends
unfolding everything runs_opened further_sources_opened
returns-clause-branch_with_a_list_ends c = record { steps = 250; comes_to = refl }

pub returns-clause-loops_with_one_end_ends : goal.returns-clause-loops_with_one_end_ends
unfolding everything runs_opened further_sources_opened
returns-clause-loops_with_one_end_ends c = record { steps = 250; comes_to = refl }

pub returns-clause-matrix_of_a_dummy_ends : goal.returns-clause-matrix_of_a_dummy_ends
unfolding everything runs_opened further_sources_opened
returns-clause-matrix_of_a_dummy_ends c = record { steps = 250; comes_to = refl }

pub returns-clause-block_with_values_ends : goal.returns-clause-block_with_values_ends
unfolding everything runs_opened further_sources_opened
returns-clause-block_with_values_ends c = record { steps = 250; comes_to = refl }

pub returns-clause-text_cut_ends : goal.returns-clause-text_cut_ends
unfolding everything runs_opened further_sources_opened
returns-clause-text_cut_ends c = record { steps = 250; comes_to = refl }

pub returns-clause-text_repeated_ends : goal.returns-clause-text_repeated_ends
unfolding everything runs_opened further_sources_opened
returns-clause-text_repeated_ends c = record { steps = 250; comes_to = refl }

pub returns-clause-sum_of_a_square_ends : goal.returns-clause-sum_of_a_square_ends
unfolding everything runs_opened further_sources_opened
returns-clause-sum_of_a_square_ends c = record { steps = 250; comes_to = refl }

pub returns-clause-format_gone_on_with_ends : goal.returns-clause-format_gone_on_with_ends
unfolding everything runs_opened further_sources_opened
returns-clause-format_gone_on_with_ends c = record { steps = 250; comes_to = refl }

pub returns-clause-integer_with_a_letter_ends : goal.returns-clause-integer_with_a_letter_ends
unfolding everything runs_opened further_sources_opened
returns-clause-integer_with_a_letter_ends c = record { steps = 250; comes_to = refl }

pub returns-clause-record_read_back_ends : goal.returns-clause-record_read_back_ends
unfolding everything runs_opened further_sources_opened
returns-clause-record_read_back_ends c = record { steps = 250; comes_to = refl }
