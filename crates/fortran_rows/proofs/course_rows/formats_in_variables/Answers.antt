use Rattle.std.proofs.Common.{refl}
use Rattle.fortran_checks.specs.f_tree.Meaning.{everything}
use Rattle.fortran_checks.specs.f_tree.Runs.{runs_opened}
use Rattle.fortran_rows.specs.CourseSources.{course_sources_opened}
use Rattle.fortran_rows.proofs.course_rows.formats_in_variables.Goals as goal

pub returns-clause-defined_up_to_its_end : goal.returns-clause-defined_up_to_its_end
unfolding everything runs_opened course_sources_opened
returns-clause-defined_up_to_its_end c = record { steps = 40; comes_to = refl }

pub returns-clause-of_an_array : goal.returns-clause-of_an_array
unfolding everything runs_opened course_sources_opened
returns-clause-of_an_array c = record { steps = 40; comes_to = refl }

pub returns-clause-wrong_in_front : goal.returns-clause-wrong_in_front
unfolding everything runs_opened course_sources_opened
returns-clause-wrong_in_front c = record { steps = 40; comes_to = refl }

pub returns-clause-unit_first : goal.returns-clause-unit_first
unfolding everything runs_opened course_sources_opened
returns-clause-unit_first c = record { steps = 40; comes_to = refl }

pub returns-clause-undefined_before_its_end : goal.returns-clause-undefined_before_its_end
unfolding everything runs_opened course_sources_opened
returns-clause-undefined_before_its_end c = record { goes_on = refl; meets = refl }
