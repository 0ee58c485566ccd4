use Rattle.std.proofs.Common.{refl}
use Rattle.fortran_checks.specs.f_tree.Meaning.{everything}
use Rattle.fortran_checks.specs.f_tree.Runs.{runs_opened}
use Rattle.fortran_rows.specs.TextsSources.{texts_sources_opened}
use Rattle.fortran_rows.proofs.example_rows.texts_programs.Goals as goal

pub returns-clause-functions_of_any_length_ends : goal.returns-clause-functions_of_any_length_ends
unfolding everything runs_opened texts_sources_opened
returns-clause-functions_of_any_length_ends c = record { steps = 250; comes_to = refl }

pub returns-clause-texts_cut_and_filled_ends : goal.returns-clause-texts_cut_and_filled_ends
unfolding everything runs_opened texts_sources_opened
returns-clause-texts_cut_and_filled_ends c = record { steps = 250; comes_to = refl }

pub returns-clause-texts_compared_ends : goal.returns-clause-texts_compared_ends
unfolding everything runs_opened texts_sources_opened
returns-clause-texts_compared_ends c = record { steps = 250; comes_to = refl }

pub returns-clause-functions_of_texts_ends : goal.returns-clause-functions_of_texts_ends
unfolding everything runs_opened texts_sources_opened
returns-clause-functions_of_texts_ends c = record { steps = 250; comes_to = refl }

pub returns-clause-parts_of_elements_ends : goal.returns-clause-parts_of_elements_ends
unfolding everything runs_opened texts_sources_opened
returns-clause-parts_of_elements_ends c = record { steps = 250; comes_to = refl }

pub returns-clause-entries_of_texts_ends : goal.returns-clause-entries_of_texts_ends
unfolding everything runs_opened texts_sources_opened
returns-clause-entries_of_texts_ends c = record { steps = 250; comes_to = refl }
