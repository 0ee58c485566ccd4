use Rattle.std.proofs.Common.{refl}
use Rattle.fortran_checks.specs.f_tree.Meaning.{everything}
use Rattle.fortran_checks.specs.f_tree.Runs.{runs_opened}
use Rattle.fortran_rows.specs.BitsSources.{bits_sources_opened}
use Rattle.fortran_rows.proofs.bit_rows.lengths_run.Goals as goal

pub returns-clause-length : goal.returns-clause-length
unfolding everything runs_opened bits_sources_opened
returns-clause-length c = record { steps = 250; comes_to = refl }

pub returns-clause-longer : goal.returns-clause-longer
unfolding everything runs_opened bits_sources_opened
returns-clause-longer c = record { steps = 250; comes_to = refl }

pub returns-clause-past_the_actual : goal.returns-clause-past_the_actual
unfolding everything runs_opened bits_sources_opened
returns-clause-past_the_actual c = record { goes_on = refl; meets = refl }
