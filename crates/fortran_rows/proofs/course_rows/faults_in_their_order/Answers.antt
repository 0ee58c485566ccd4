use Rattle.std.proofs.Common.{refl}
use Rattle.fortran_checks.specs.f_tree.Meaning.{everything}
use Rattle.fortran_checks.specs.f_tree.Runs.{runs_opened}
use Rattle.fortran_rows.specs.CourseSources.{course_sources_opened}
use Rattle.fortran_rows.proofs.course_rows.faults_in_their_order.Goals as goal

pub returns-clause-file_used_up : goal.returns-clause-file_used_up
unfolding everything runs_opened course_sources_opened
returns-clause-file_used_up c = record { steps = 40; comes_to = refl }

pub returns-clause-file_used_up_before_a_variable : goal.returns-clause-file_used_up_before_a_variable
unfolding everything runs_opened course_sources_opened
returns-clause-file_used_up_before_a_variable c = record { steps = 40; comes_to = refl }

pub returns-clause-text_too_long : goal.returns-clause-text_too_long
unfolding everything runs_opened course_sources_opened
returns-clause-text_too_long c = record { steps = 40; comes_to = refl }

pub returns-clause-no_descriptor : goal.returns-clause-no_descriptor
unfolding everything runs_opened course_sources_opened
returns-clause-no_descriptor c = record { steps = 40; comes_to = refl }

pub returns-clause-field_too_long : goal.returns-clause-field_too_long
unfolding everything runs_opened course_sources_opened
returns-clause-field_too_long c = record { goes_on = refl; meets = refl }
