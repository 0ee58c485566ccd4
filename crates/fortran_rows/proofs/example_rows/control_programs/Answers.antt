use Rattle.std.proofs.Common.{refl}
use Rattle.fortran_checks.specs.f_tree.Meaning.{everything}
use Rattle.fortran_checks.specs.f_tree.Runs.{runs_opened}
use Rattle.fortran_rows.specs.ControlSources.{control_sources_opened}
use Rattle.fortran_rows.proofs.example_rows.control_programs.Goals as goal

pub returns-clause-loops_that_share_their_end_ends : goal.returns-clause-loops_that_share_their_end_ends
unfolding everything runs_opened control_sources_opened
returns-clause-loops_that_share_their_end_ends c = record { steps = 250; comes_to = refl }

pub returns-clause-jumps_out_of_loops_ends : goal.returns-clause-jumps_out_of_loops_ends
unfolding everything runs_opened control_sources_opened
returns-clause-jumps_out_of_loops_ends c = record { steps = 250; comes_to = refl }

pub returns-clause-branches_by_number_ends : goal.returns-clause-branches_by_number_ends
unfolding everything runs_opened control_sources_opened
returns-clause-branches_by_number_ends c = record { steps = 250; comes_to = refl }

pub returns-clause-assigned_branches_ends : goal.returns-clause-assigned_branches_ends
unfolding everything runs_opened control_sources_opened
returns-clause-assigned_branches_ends c = record { steps = 250; comes_to = refl }

pub returns-clause-goto_without_labels_ends : goal.returns-clause-goto_without_labels_ends
unfolding everything runs_opened control_sources_opened
returns-clause-goto_without_labels_ends c = record { steps = 250; comes_to = refl }

pub returns-clause-blocks_in_blocks_ends : goal.returns-clause-blocks_in_blocks_ends
unfolding everything runs_opened control_sources_opened
returns-clause-blocks_in_blocks_ends c = record { steps = 250; comes_to = refl }

pub returns-clause-jumps_to_the_outer_loop_ends : goal.returns-clause-jumps_to_the_outer_loop_ends
unfolding everything runs_opened control_sources_opened
returns-clause-jumps_to_the_outer_loop_ends c = record { steps = 250; comes_to = refl }

pub returns-clause-returns_into_a_loop_ends : goal.returns-clause-returns_into_a_loop_ends
unfolding everything runs_opened control_sources_opened
returns-clause-returns_into_a_loop_ends c = record { steps = 250; comes_to = refl }
