use Rattle.std.proofs.Common.{refl}
use Rattle.fortran_checks.specs.f_tree.Meaning.{everything}
use Rattle.fortran_checks.specs.f_tree.Runs.{runs_opened}
use Rattle.fortran_rows.specs.ProceduresSources.{procedures_sources_opened}
use Rattle.fortran_rows.proofs.example_rows.procedures_programs.Goals as goal

pub returns-clause-two_names_of_one_place_ends : goal.returns-clause-two_names_of_one_place_ends
unfolding everything runs_opened procedures_sources_opened
returns-clause-two_names_of_one_place_ends c = record { steps = 250; comes_to = refl }

pub returns-clause-parts_of_one_array_ends : goal.returns-clause-parts_of_one_array_ends
unfolding everything runs_opened procedures_sources_opened
returns-clause-parts_of_one_array_ends c = record { steps = 250; comes_to = refl }

pub returns-clause-common_that_is_passed_ends : goal.returns-clause-common_that_is_passed_ends
unfolding everything runs_opened procedures_sources_opened
returns-clause-common_that_is_passed_ends c = record { steps = 250; comes_to = refl }

pub returns-clause-entries_with_one_result_ends : goal.returns-clause-entries_with_one_result_ends
unfolding everything runs_opened procedures_sources_opened
returns-clause-entries_with_one_result_ends c = record { steps = 250; comes_to = refl }

pub returns-clause-entry_of_another_type_ends : goal.returns-clause-entry_of_another_type_ends
unfolding everything runs_opened procedures_sources_opened
returns-clause-entry_of_another_type_ends c = record { steps = 250; comes_to = refl }

pub returns-clause-entries_with_their_dummies_ends : goal.returns-clause-entries_with_their_dummies_ends
unfolding everything runs_opened procedures_sources_opened
returns-clause-entries_with_their_dummies_ends c = record { steps = 250; comes_to = refl }

pub returns-clause-returns_to_labels_ends : goal.returns-clause-returns_to_labels_ends
unfolding everything runs_opened procedures_sources_opened
returns-clause-returns_to_labels_ends c = record { steps = 250; comes_to = refl }

pub returns-clause-functions_of_statements_ends : goal.returns-clause-functions_of_statements_ends
unfolding everything runs_opened procedures_sources_opened
returns-clause-functions_of_statements_ends c = record { steps = 250; comes_to = refl }

pub returns-clause-procedures_that_are_passed_ends : goal.returns-clause-procedures_that_are_passed_ends
unfolding everything runs_opened procedures_sources_opened
returns-clause-procedures_that_are_passed_ends c = record { steps = 250; comes_to = refl }

pub returns-clause-dimensions_by_the_call_ends : goal.returns-clause-dimensions_by_the_call_ends
unfolding everything runs_opened procedures_sources_opened
returns-clause-dimensions_by_the_call_ends c = record { steps = 250; comes_to = refl }

pub returns-clause-values_that_are_passed_ends : goal.returns-clause-values_that_are_passed_ends
unfolding everything runs_opened procedures_sources_opened
returns-clause-values_that_are_passed_ends c = record { steps = 250; comes_to = refl }
