use Rattle.std.proofs.Common.{refl}
use Rattle.fortran_checks.specs.f_tree.Meaning.{everything}
use Rattle.fortran_checks.specs.f_tree.Runs.{runs_opened}
use Rattle.fortran_rows.specs.CourseSources.{course_sources_opened}
use Rattle.fortran_rows.proofs.SettingExamples.{reversion_placed, slashes_placed, elements_placed, values_placed}
use Rattle.fortran_rows.proofs.course_rows.items_in_their_file.Goals as goal

pub returns-clause-reversion_placed : goal.returns-clause-reversion_placed
returns-clause-reversion_placed c = reversion_placed

pub returns-clause-slashes_placed : goal.returns-clause-slashes_placed
returns-clause-slashes_placed c = slashes_placed

pub returns-clause-elements_placed : goal.returns-clause-elements_placed
returns-clause-elements_placed c = elements_placed

pub returns-clause-values_placed : goal.returns-clause-values_placed
returns-clause-values_placed c = values_placed

pub returns-clause-by_reversion : goal.returns-clause-by_reversion
unfolding everything runs_opened course_sources_opened
returns-clause-by_reversion c = record { steps = 40; comes_to = refl }

pub returns-clause-by_slashes : goal.returns-clause-by_slashes
unfolding everything runs_opened course_sources_opened
returns-clause-by_slashes c = record { steps = 40; comes_to = refl }

pub returns-clause-by_elements : goal.returns-clause-by_elements
unfolding everything runs_opened course_sources_opened
returns-clause-by_elements c = record { steps = 40; comes_to = refl }

pub returns-clause-by_values : goal.returns-clause-by_values
unfolding everything runs_opened course_sources_opened
returns-clause-by_values c = record { steps = 40; comes_to = refl }
