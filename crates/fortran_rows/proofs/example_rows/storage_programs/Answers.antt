use Rattle.std.proofs.Common.{refl}
use Rattle.fortran_checks.specs.f_tree.Meaning.{everything}
use Rattle.fortran_checks.specs.f_tree.Runs.{runs_opened}
use Rattle.fortran_rows.specs.StorageSources.{storage_sources_opened}
use Rattle.fortran_rows.proofs.example_rows.storage_programs.Goals as goal

pub returns-clause-overlay_of_a_matrix_ends : goal.returns-clause-overlay_of_a_matrix_ends
unfolding everything runs_opened storage_sources_opened
returns-clause-overlay_of_a_matrix_ends c = record { steps = 250; comes_to = refl }

pub returns-clause-overlay_in_a_chain_ends : goal.returns-clause-overlay_in_a_chain_ends
unfolding everything runs_opened storage_sources_opened
returns-clause-overlay_in_a_chain_ends c = record { steps = 250; comes_to = refl }

pub returns-clause-common_that_differs_by_unit_ends : goal.returns-clause-common_that_differs_by_unit_ends
unfolding everything runs_opened storage_sources_opened
returns-clause-common_that_differs_by_unit_ends c = record { steps = 250; comes_to = refl }

pub returns-clause-common_made_longer_ends : goal.returns-clause-common_made_longer_ends
unfolding everything runs_opened storage_sources_opened
returns-clause-common_made_longer_ends c = record { steps = 250; comes_to = refl }

pub returns-clause-texts_that_overlap_ends : goal.returns-clause-texts_that_overlap_ends
unfolding everything runs_opened storage_sources_opened
returns-clause-texts_that_overlap_ends c = record { steps = 250; comes_to = refl }

pub returns-clause-arrays_over_their_file_ends : goal.returns-clause-arrays_over_their_file_ends
unfolding everything runs_opened storage_sources_opened
returns-clause-arrays_over_their_file_ends c = record { steps = 250; comes_to = refl }

pub returns-clause-values_of_a_block_ends : goal.returns-clause-values_of_a_block_ends
unfolding everything runs_opened storage_sources_opened
returns-clause-values_of_a_block_ends c = record { steps = 250; comes_to = refl }

pub returns-clause-block_named_external_ends : goal.returns-clause-block_named_external_ends
unfolding everything runs_opened storage_sources_opened
returns-clause-block_named_external_ends c = record { steps = 250; comes_to = refl }

pub returns-clause-values_before_the_run_ends : goal.returns-clause-values_before_the_run_ends
unfolding everything runs_opened storage_sources_opened
returns-clause-values_before_the_run_ends c = record { steps = 250; comes_to = refl }

pub returns-clause-locals_that_stay_ends : goal.returns-clause-locals_that_stay_ends
unfolding everything runs_opened storage_sources_opened
returns-clause-locals_that_stay_ends c = record { steps = 250; comes_to = refl }
